use Rattle.plan_base.proofs.Common.{◌≡◌, take, get, int_eq}
use Rattle.region_build.specs.{road_nodes}
use Rattle.region_build.proofs.roads.road_nodes.Given as goal

abbrev pub invariant-loop-id : goal.invariant-loop-id
invariant-loop-id l = l.nodes.items ≡ road_nodes (get int_eq l.places.by_id) (take l.id-index l.id-items)
