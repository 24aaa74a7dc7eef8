use Rattle.plan_base.proofs.Common.{◌<◌, length, arith, subst, ints, All-more, All-weaker, take_all}
use Rattle.geo_length.specs.{AreInside, IsInBounds}
use Rattle.geo_length.proofs.boxes.Bounds.of.Goals as goal

pub loop-point-preserved : goal.loop-point-preserved
loop-point-preserved c =
    let after = IsInBounds c.with_point-bounds.result in
    let here = c.with_point-bounds.ensures.point in
    let there : c.loop-point.point-index < length c.args.points.now = omega arith in
    All-more after c.args.points.now c.loop-point.point-index c.point-item.result there
    (All-weaker (IsInBounds c.loop-point.bounds) after c.with_point-bounds.ensures.kept _ c.loop-point.invariant)
    (rw (← c.point-item.is) (here.0, omega (arith, ints, here.1)))

pub returns : goal.returns
returns c = subst (AreInside c.loop-point.bounds) (take_all c.loop-point.point-index c.args.points.now c.loop-point-test.false) c.loop-point.invariant
