use Rattle.plan_base.proofs.Common.{◌≡◌, ◌++◌, ◌≤◌, List, length, map, AllByRecursion}
use Rattle.region_build.specs.{SourceLists, lists_of, IsTally}
use Rattle.region_build.proofs.tallies.tallied.Given as goal

abbrev pub decreases-loop-rest : goal.decreases-loop-rest
decreases-loop-rest l = length l.rest

abbrev pub invariant-loop-rest : goal.invariant-loop-rest
invariant-loop-rest l = record {
  last : AllByRecursion (λ source. AllByRecursion (λ row. 1 ≤ row.headway) source.frequencies.now) l.rest;
  so_far : (before : List SourceLists) × (before ++ map lists_of l.rest ≡ map lists_of l.sources) × IsTally before l.tally;
}
