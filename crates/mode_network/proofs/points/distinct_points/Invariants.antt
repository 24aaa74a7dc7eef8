use Rattle.plan_base.proofs.Common.{take, Contains, IfSome}
use Rattle.mode_network.specs.{road_points, HoldSame}
use Rattle.mode_network.proofs.points.distinct_points.Given as goal

-- the points of the road nodes so far, and the last of them
abbrev pub invariant-loop-node : goal.invariant-loop-node
invariant-loop-node l = record {
  same : HoldSame l.points.items (road_points (take l.node-index l.roads));
  held : IfSome l.last (Contains l.points.items);
}
