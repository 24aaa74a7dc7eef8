use Rattle.plan_base.proofs.Common.{◌*◌, ◌≤◌, arith, mul-le-mul}
use Rattle.geo_length.proofs.lengths.east_mm.Goals as goal

pub overflow_mul-result-2 : goal.overflow_mul-result-2
overflow_mul-result-2 c =
    let most : c.longitude_between.result * c.width.result ≤ 1800000000 * 10000 = mul-le-mul c.longitude_between.ensures.within c.width.ensures.within in
    omega (arith, most)

pub returns-clause-within : goal.returns-clause-within
returns-clause-within c =
    let most : c.longitude_between.result * c.width.result ≤ 1800000000 * 10000 = mul-le-mul c.longitude_between.ensures.within c.width.ensures.within in
    omega (arith, most)
