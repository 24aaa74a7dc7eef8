use Rattle.plan_base.proofs.Common.{◌≡◌, length, Bor, option_map}
use Rattle.hierarchy.specs.declared.hierarchy.Hierarchy.{Hierarchy}
use Rattle.phase_graph.specs.{ends_in}
use Rattle.planning.specs.{ArePartsFor}
use Rattle.planning.proofs.destinations.listed.Given as goal

abbrev pub invariant-loop-query : goal.invariant-loop-query
invariant-loop-query l = record {
  one_each : length l.listing.parts.items ≡ l.query-index;
  numbers_are : l.listing.numbers.items ≡ ends_in (option_map (λ (x : Bor Hierarchy). x.now) l.hierarchy) l.listing.targets.items;
  are : ArePartsFor l.network (option_map (λ (x : Bor Hierarchy). x.now) l.hierarchy) l.listing.targets.items l.listing.numbers.items l.queries l.listing.parts.items l.query-index;
}
