use Rattle.plan_base.proofs.Common.{◌≡◌, ◌≤◌, ◌<◌, ◌+◌, ◌^◌, length}
use Rattle.timetable_arcs.specs.{calls_of, trips_fault}
use Rattle.timetable_arcs.proofs.rules.trips_fault.Given as goal

abbrev pub invariant-loop-rest : goal.invariant-loop-rest
invariant-loop-rest l = record {
  same : trips_fault l.days l.stops l.place l.rest ≡ trips_fault l.days l.stops 0 l.trips;
  counted : l.place + length l.rest ≤ length l.trips;
  few_calls : calls_of l.rest < 2 ^ 32;
}

abbrev pub decreases-loop-rest : goal.decreases-loop-rest
decreases-loop-rest l = length l.rest
