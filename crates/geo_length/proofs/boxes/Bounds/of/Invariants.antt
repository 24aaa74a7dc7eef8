use Rattle.plan_base.proofs.Common.{take}
use Rattle.geo_length.specs.{AreInside}
use Rattle.geo_length.proofs.boxes.Bounds.of.Given as goal

abbrev pub invariant-loop-point : goal.invariant-loop-point
invariant-loop-point l = AreInside l.bounds (take l.point-index l.points)
