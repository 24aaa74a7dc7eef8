use Rattle.plan_base.proofs.Common.{arith}
use Rattle.geo_length.proofs.LengthLaws.{northward-le, eastward-le}
use Rattle.geo_length.proofs.gaps.least_mm.Goals as goal

pub returns : goal.returns
returns c = λ other inside.
    omega (arith, c.max.ensures, c.least_north.ensures other inside, c.least_east.ensures other inside, northward-le c.args.place other, eastward-le c.args.place other)
