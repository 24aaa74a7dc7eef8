use Rattle.plan_base.proofs.Common.{◌≡◌, take, get, flat_map}
use Rattle.sample_city.specs.{corner_arcs, is_same_road_key}
use Rattle.sample_city.proofs.streets.city_arcs.Given as goal

abbrev pub invariant-loop-at : goal.invariant-loop-at
invariant-loop-at l = l.arcs.items ≡ flat_map (corner_arcs l.n (get is_same_road_key l.numbers.by_end)) (take l.at-index l.corners)
