use Rattle.plan_base.proofs.Common.{◌≡◌, ◌++◌, take, flat_map}
use Rattle.sample_city.specs.Trips as spec
use Rattle.sample_city.proofs.trips.push_line.Given as goal

abbrev pub invariant-loop-j : goal.invariant-loop-j
invariant-loop-j l = l.trips.items ≡ l.initial.trips.items ++ flat_map (spec.trip_along l.fleet l.line l.stops) (take l.j-index l.j-items)
