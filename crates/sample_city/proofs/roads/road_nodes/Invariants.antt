use Rattle.plan_base.proofs.Common.{◌≡◌, take, flat_map}
use Rattle.sample_city.specs.{nodes_at}
use Rattle.sample_city.proofs.roads.road_nodes.Given as goal

abbrev pub invariant-loop-at : goal.invariant-loop-at
invariant-loop-at l = l.nodes.items ≡ flat_map nodes_at (take l.at-index l.corners)
