use Rattle.plan_base.proofs.Common.{◌≡◌, map}
use Rattle.sample_city.specs.{CityStop}
use Rattle.sample_city.proofs.stops.names_of.Given as goal

abbrev pub invariant-loop-stop : goal.invariant-loop-stop
invariant-loop-stop l = l.names.items ≡ map (λ (stop : CityStop). stop.name) l.yielded
