use Rattle.plan_base.proofs.Common.{arith, ints}
use Rattle.geo_length.proofs.search.is_passed_over.Goals as goal

pub returns-then-mm-least-2 : goal.returns-then-mm-least-2
returns-then-mm-least-2 c = λ lower point there.
    let far = c.least_mm-least.ensures point.1 there.0 in
    rw c.in-Some.is (omega (arith, far, c.if-mm-least-2.true), λ same. grind (arith, ints))
