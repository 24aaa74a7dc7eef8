use Rattle.plan_base.proofs.Common.{arith, sym, ◌∙◌, ◌&&◌, nat_lt, nat_le, length}
use Rattle.opl_reader.specs.{either_case_digit_of, hexadecimal_scalar_at}
use Rattle.opl_reader.proofs.{Powers.powers_up, DigitLemmas.bad_digit}
use Rattle.opl_reader.proofs.escapes.hexadecimal.Goals as goal

pub overflow_mul-n : goal.overflow_mul-n
overflow_mul-n c = omega (arith, powers_up 16 c.loop-byte.byte-index 5 (omega arith) (omega arith), c.loop-byte.invariant.0)

pub overflow_add-n : goal.overflow_add-n
overflow_add-n c = omega (arith, powers_up 16 c.loop-byte.byte-index 5 (omega arith) (omega arith), c.loop-byte.invariant.0, c.in_ok-n.ensures.within)

pub returns-in_err-n : goal.returns-in_err-n
unfolding hexadecimal_scalar_at
returns-in_err-n c =
    c.from_residual.ensures
    ∙ bad_digit either_case_digit_of 16 c.args.digits.now c.loop-byte.byte-index c.loop-byte.n c.loop-byte-test.true c.loop-byte.invariant.1 (sym c.digit.ensures.value ∙ c.in_err-n.was)
    (nat_lt 0 (length c.args.digits.now) && nat_le (length c.args.digits.now) 6)
