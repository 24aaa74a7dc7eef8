use Rattle.plan_base.proofs.Common.{◌≡◌, take, option_to_list, flat_map}
use Rattle.sample_city.specs.{corner_stop}
use Rattle.sample_city.proofs.stops.city_stops.Given as goal

abbrev pub invariant-loop-at : goal.invariant-loop-at
invariant-loop-at l = l.stops.items ≡ flat_map (λ at. option_to_list (corner_stop at)) (take l.at-index l.corners)
