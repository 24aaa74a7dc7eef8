use Rattle.plan_base.proofs.Common.{◌≡◌, ◌+◌, ◌++◌, length, AllByRecursion}
use Rattle.gtfs_tables.specs.{IsFeedId}
use Rattle.region_build.specs.{entries_from}
use Rattle.region_build.proofs.stops.all_entries.Given as goal

abbrev pub decreases-loop-rest : goal.decreases-loop-rest
decreases-loop-rest l = length l.rest

abbrev pub invariant-loop-rest : goal.invariant-loop-rest
invariant-loop-rest l = record {
  so_far : l.entries.items ++ entries_from l.place l.rest ≡ entries_from 0 l.stops;
  ids : AllByRecursion (λ stop. IsFeedId stop.id) l.rest;
  count : l.place + length l.rest ≡ length l.stops;
}
