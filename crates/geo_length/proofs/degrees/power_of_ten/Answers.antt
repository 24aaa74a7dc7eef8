use Rattle.plan_base.proofs.Common.{arith, lit<, ◌^◌, ◌≤◌, pow-le-pow_right}
use Rattle.geo_length.proofs.degrees.power_of_ten.Goals as goal

pub returns-clause-within : goal.returns-clause-within
returns-clause-within c =
    let most : 10 ^ c.args.exponent ≤ 10 ^ 7 = pow-le-pow_right {n = 10} (lit< tt) c.requires in
    omega (arith, most, c.pow.ensures)
