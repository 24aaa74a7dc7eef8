use Rattle.plan_base.proofs.Common.{rules, of_calls, nat_lt, always_returns_same}
use Rattle.std.proofs.lemmas.List.Sorted.{IsPartitionedBy-ltb}
use Rattle.timetable_arcs.specs.{Instance, plain_table, departs}
use Rattle.timetable_arcs.proofs.RunLemmas.{found_from}
use Rattle.timetable_arcs.proofs.runs.first_by_halves.Goals as goal

pub returns : goal.returns
returns c =
    found_from (λ (run : Instance). departs (plain_table c.args.bases.now c.args.trips.now) run c.args.call) c.args.time c.args.runs.now c.partition_point.result c.partition_point.ensures.bound
    (c.partition_point.ensures.partitioned (λ (run : Instance). nat_lt (departs (plain_table c.args.bases.now c.args.trips.now) run c.args.call) c.args.time) (always_returns_same _ _ _ (λ a r f k. search (rules, of_calls)))
    (IsPartitionedBy-ltb (λ (run : Instance). departs (plain_table c.args.bases.now c.args.trips.now) run c.args.call) c.args.runs.now c.args.time c.requires))
