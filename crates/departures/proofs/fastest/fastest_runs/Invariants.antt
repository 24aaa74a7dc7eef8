use Rattle.plan_base.proofs.Common.{◌≡◌, ◌<◌, length}
use Rattle.timetable_arcs.specs.{Instance, Ride}
use Rattle.departures.specs.{IsNoFaster}
use Rattle.departures.proofs.fastest.fastest_runs.Given as goal

abbrev pub invariant-loop-pattern : goal.invariant-loop-pattern
invariant-loop-pattern l = record {
  len : length l.runs.items ≡ l.pattern;
  none : (run : Instance) (ride : Ride) → ride.pattern < l.pattern → IsNoFaster l.timetable l.runs.items run ride;
}
