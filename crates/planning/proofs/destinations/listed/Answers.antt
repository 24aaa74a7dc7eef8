use Rattle.plan_base.proofs.Common.{ℕ, List, ◌++◌, ◌+◌, ◌∙◌, Bor, Option, None, length, ap, sym, subst, option_map, get_or_default, length_push}
use Rattle.hierarchy.specs.declared.hierarchy.Hierarchy.{Hierarchy}
use Rattle.phase_graph.specs.{ends_in}
use Rattle.journey.specs.{Query}
use Rattle.planning.specs.{AddsDestination}
use Rattle.planning.proofs.DestinationLemmas.{ends_more, parts_more}
use Rattle.planning.proofs.destinations.listed.Goals as goal

pub loop-query-preserved : goal.loop-query-preserved
loop-query-preserved c =
    let n = c.args.network.now in
    let h = option_map (λ (x : Bor Hierarchy). x.now) c.args.hierarchy in
    let old = c.loop-query.listing in
    let new = c.add.new.self in
    let k = c.loop-query.query-index in
    let same = c.query-item.is ∙ get_or_default c.args.queries.now k c.query-item.result None c.loop-query-test.true in
    let adds = subst (λ (q : Option Query). AddsDestination n h q old new) same c.in_ok-add.ensures in
    record {
      one_each = ap length adds.parts ∙ (length_push old.parts.items _ ∙ ap (λ i. i + 1) c.loop-query.invariant.one_each);
      numbers_are = adds.numbers ∙ (ap (λ (ps : List ℕ). ps ++ ends_in h adds.copies) c.loop-query.invariant.numbers_are ∙ (sym (ends_more h old.targets.items adds.copies) ∙ ap (ends_in h) (sym adds.targets)));
      are = parts_more n h c.args.queries.now old new k c.loop-query.invariant.one_each c.loop-query.invariant.are adds;
    }
