use Rattle.plan_base.proofs.Common.{◌≡◌, take}
use Rattle.sample_city.specs.Trips as spec
use Rattle.sample_city.proofs.trips.line_stops.Given as goal

abbrev pub invariant-loop-other : goal.invariant-loop-other
invariant-loop-other l = l.numbers.items ≡ spec.line_stops l.n l.stops (take l.other-index l.others) l.way l.line
