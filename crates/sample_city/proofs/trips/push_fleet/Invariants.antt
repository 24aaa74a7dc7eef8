use Rattle.plan_base.proofs.Common.{◌≡◌, ◌++◌, take, flat_map}
use Rattle.sample_city.specs.Trips as spec
use Rattle.sample_city.proofs.trips.push_fleet.Given as goal

abbrev pub invariant-loop-line : goal.invariant-loop-line
invariant-loop-line l = l.trips.items ≡ l.initial.trips.items ++ flat_map (λ line. spec.line_trips l.fleet line (spec.line_stops l.n l.stops l.lines l.fleet.way line)) (take l.line-index l.lines)
