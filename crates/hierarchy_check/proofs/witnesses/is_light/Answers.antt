use Rattle.plan_base.proofs.Common.{◌≡◌, ◌∷◌, ◌∙◌, ◌-◌, drop, take, get_or, ap, sym, length, arith, drop_more}
use Rattle.std.proofs.lemmas.List.{take_rest}
use Rattle.hierarchy.specs.{WitnessLists}
use Rattle.hierarchy_check.proofs.{EntryLemmas.both_ways, WalkLemmas.witness_decides}
use Rattle.hierarchy_check.proofs.witnesses.is_light.Goals as goal

pub returns-in-len1-up : goal.returns-in-len1-up
returns-in-len1-up c =
    let nodes = c.witness.inside.nodes.now in
    let split : nodes ≡ get_or nodes 0 0 ∷ drop 1 nodes = drop_more nodes 0 0 (omega (arith, c.in-len1-up.len_at_least)) in
    let rest = take (length nodes - 1) (drop 1 nodes) in
    let tail : drop 1 nodes ≡ rest = sym (take_rest nodes 1) in
    let whole = ap (λ (w : WitnessLists). w.nodes) (sym c.witness.view_is) ∙ split ∙ ap (λ ns. get_or nodes 0 0 ∷ ns) tail in
    both_ways c.can_walk.ensures (witness_decides c.args.h.now c.known.ensures.witnesses_ascend c.args.x c.args.u c.args.v c.args.limit (get_or nodes 0 0) rest c.args.witness.now c.requires whole)
