use Rattle.plan_base.proofs.Common.{◌≡◌, ◌+◌, ◌*◌, ◌<◌, ◌++◌, length}
use Rattle.sample_city.specs.Trips as spec
use Rattle.sample_city.proofs.trips.calls_along.Given as goal

abbrev pub decreases-loop-rest : goal.decreases-loop-rest
decreases-loop-rest l = length l.rest

abbrev pub invariant-loop-rest : goal.invariant-loop-rest
invariant-loop-rest l = record {
  so_far : l.calls.items ++ spec.calls_along l.arr l.rest ≡ spec.calls_along l.time l.stops;
  early : l.arr + 140 * length l.rest < 600000;
}
