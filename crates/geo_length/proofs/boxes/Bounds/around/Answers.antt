use Rattle.plan_base.proofs.Common.{arith, ints}
use Rattle.geo_length.proofs.BoxLaws.{between, still_within}
use Rattle.geo_length.proofs.boxes.Bounds.around.Goals as goal

pub returns-clause-kept : goal.returns-clause-kept
returns-clause-kept c = λ point inside.
    let end = c.with_id.ensures in
    still_within c.with_id.result c.with-corners.result point end.low end.high
    (omega (arith, ints, end.kept, c.with-corners.ensures.least, c.with.ensures.least, inside.1))
    (c.with-corners.ensures.kept point.1 (c.with.ensures.kept point.1 inside.0))

pub returns-clause-other : goal.returns-clause-other
returns-clause-other c = λ point inside.
    let end = c.with_id.ensures in
    still_within c.with_id.result c.with-corners.result point end.low end.high (omega (arith, ints, end.id, inside.1))
    (between c.args.other c.with-corners.result point.1 (c.with-corners.ensures.kept c.args.other.low c.with.ensures.place) c.with-corners.ensures.place inside.0)
