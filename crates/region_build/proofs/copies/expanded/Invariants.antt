use Rattle.plan_base.proofs.Common.{◌≡◌, ◌++◌, length, map, nat_eq, get, AllByRecursion, flat_map}
use Rattle.gtfs_tables.specs.{IsFeedId}
use Rattle.region_build.specs.{copies_of, lists_of}
use Rattle.region_build.proofs.copies.expanded.Given as goal

abbrev pub decreases-loop-rest : goal.decreases-loop-rest
decreases-loop-rest l = length l.rest

abbrev pub invariant-loop-rest : goal.invariant-loop-rest
invariant-loop-rest l = record {
  ids : AllByRecursion (λ source. IsFeedId source.id.now) l.rest;
  so_far : l.trips.items ++ flat_map (copies_of (get nat_eq l.numbers.by_stop)) (map lists_of l.rest) ≡ flat_map (copies_of (get nat_eq l.numbers.by_stop)) (map lists_of l.sources);
}
