use Rattle.plan_base.proofs.Common.{◌≡◌, ◌∙◌, ◌-◌, length, take, rules, of_calls, arith, nat_le, slice_get, always_returns_same, common_steps, gets, IsPartitionedBy-leb}
use Rattle.timetable_arcs.specs.{Instance, plain_table, arrives}
use Rattle.timetable_arcs.proofs.RunLemmas.{found_by}
use Rattle.timetable_arcs.proofs.runs.last_by.Goals as goal

pub returns : goal.returns
returns c =
    let got : c.copied.result ≡ slice_get (take c.partition_point-place.result c.args.runs.now) (length (take c.partition_point-place.result c.args.runs.now) - 1) = grind (arith, common_steps, gets) in
    got ∙ found_by (plain_table c.args.bases.now c.args.trips.now) c.args.call c.args.time c.args.runs.now c.partition_point-place.result
    (c.partition_point-place.ensures.partitioned (λ (run : Instance). nat_le (arrives (plain_table c.args.bases.now c.args.trips.now) run c.args.call) c.args.time) (always_returns_same _ _ _ (λ a r f k. search (rules, of_calls)))
    (IsPartitionedBy-leb (λ (run : Instance). arrives (plain_table c.args.bases.now c.args.trips.now) run c.args.call) c.args.runs.now c.args.time c.requires))
