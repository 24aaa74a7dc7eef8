use Rattle.plan_base.proofs.Common.{◌≡◌, take, flat_map, get, int_eq}
use Rattle.road_profile.specs.{way_legs}
use Rattle.road_profile.proofs.legs.legs_of_ways.Given as goal

abbrev pub invariant-loop-way : goal.invariant-loop-way
invariant-loop-way l = l.rows.items ≡ flat_map (way_legs (get int_eq l.places.by_id)) (take l.way-index l.ways)
