use Rattle.plan_base.proofs.Common.{◌≡◌, ◌∙◌, ◌+◌, ◌-◌, ◌<◌, ◌∷◌, Bool, List, ℕ, length, drop, get_or, refl, ap, arith, subst, sym, All, drop_all, drop_more, get_or_default}
use Rattle.hierarchy.proofs.FallLemmas.{into_node}
use Rattle.phase_graph.specs.{marks_in, inside.AreChains, inside.HasFalls, inside.IsFallAt, inside.places_into, inside.places_into_all}
use Rattle.phase_graph.proofs.FallLemmas.{all_falls, are_falls, chains_none, has_falls}
use Rattle.phase_graph.proofs.falls.FallChains.new.Goals as goal

pub loop-left-init : goal.loop-left-init
loop-left-init c =
    let nodes = c.args.nodes.now in
    rw (c.new.ensures.items, drop_all (length nodes) nodes (omega arith)) (record { chains = chains_none c.args.h.now c.args.numbers.items c.requires.small; marks = refl })

pub put_into-requires : goal.put_into-requires
put_into-requires c =
    let h = c.args.h.now in
    let nodes = c.args.nodes.now in
    let before = c.loop-left.left - 1 in
    let lt : before < length nodes = omega (arith, c.loop-left-test.true, c.loop-left.auto.left) in
    let x = get_or nodes before 0 in
    subst (λ (marks : List Bool). All (IsFallAt h marks) (places_into h x)) (sym c.loop-left.invariant.marks)
    (are_falls h c.known.ensures (marks_in c.args.numbers.items) nodes c.requires.marked x (before, lt, get_or_default nodes before x 0 lt) (places_into h x) (into_node h.order h.entries x))

pub loop-left-preserved : goal.loop-left-preserved
loop-left-preserved c =
    let h = c.args.h.now in
    let nodes = c.args.nodes.now in
    let before = c.loop-left.left - 1 in
    let inv = c.loop-left.invariant in
    let lt : before < length nodes = omega (arith, c.loop-left-test.true, c.loop-left.auto.left) in
    let on : before + 1 ≡ c.loop-left.left = omega (arith, c.loop-left-test.true) in
    let next = drop_more nodes before 0 lt ∙ ap (λ (k : ℕ). get_or nodes before 0 ∷ drop k nodes) on in
    let put = c.in_ok-put_into.ensures in
    rw next (record {
      chains = put.chains (places_into_all h (drop c.loop-left.left nodes)) inv.chains;
      marks = put.marks ∙ inv.marks;
    })

pub returns : goal.returns
returns c =
    let h = c.args.h.now in
    let nodes = c.args.nodes.now in
    let all = c.loop-left.falls.all.items in
    let first = c.loop-left.falls.first.items in
    let inv = c.loop-left.invariant in
    let start : c.loop-left.left ≡ 0 = omega (arith, c.loop-left-test.false) in
    let marks = marks_in c.args.numbers.items in
    let chains = subst (λ (k : ℕ). AreChains h (places_into_all h (drop k nodes)) all first) start inv.chains in
    record {
      falls = subst (λ (ms : List Bool). HasFalls h ms all first) (sym inv.marks) (has_falls h c.known.ensures marks (places_into_all h nodes) (all_falls h c.known.ensures marks nodes c.requires.marked) all first chains);
      marks = inv.marks;
    }
