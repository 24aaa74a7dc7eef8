use Rattle.plan_base.proofs.Common.{◌≡◌, take}
use Rattle.region_build.specs.{layer}
use Rattle.region_build.proofs.layers.points_of.Given as goal

abbrev pub invariant-loop-node : goal.invariant-loop-node
invariant-loop-node l = l.points.items ≡ layer l.mode (take l.node-index l.roads)
