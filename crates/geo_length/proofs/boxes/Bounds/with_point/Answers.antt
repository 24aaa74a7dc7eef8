use Rattle.plan_base.proofs.Common.{arith, ints}
use Rattle.geo_length.proofs.BoxLaws.{still_within}
use Rattle.geo_length.proofs.boxes.Bounds.with_point.Goals as goal

pub returns-clause-point : goal.returns-clause-point
returns-clause-point c =
    let end = c.with_id.ensures in
    still_within c.with_id.result c.with.result (c.args.id, c.args.place) end.low end.high (omega (arith, ints, end.id)) c.with.ensures.place

pub returns-clause-kept : goal.returns-clause-kept
returns-clause-kept c = λ other inside.
    let end = c.with_id.ensures in
    still_within c.with_id.result c.with.result other end.low end.high (omega (arith, ints, end.kept, c.with.ensures.least, inside.1))
    (c.with.ensures.kept other.1 inside.0)
