use Rattle.plan_base.proofs.Common.{arith, sym, ◌∙◌, ◌&&◌, nat_lt, nat_le, length}
use Rattle.plain_texts.specs.{digit_of}
use Rattle.opl_reader.specs.{up_to_eighteen_digits_at}
use Rattle.opl_reader.proofs.{Powers.powers_up, DigitLemmas.bad_digit}
use Rattle.opl_reader.proofs.ids.number.Goals as goal

pub overflow_mul-n : goal.overflow_mul-n
overflow_mul-n c = omega (arith, powers_up 10 c.loop-byte.byte-index 17 (omega arith) (omega arith), c.loop-byte.invariant.0)

pub overflow_add-n : goal.overflow_add-n
overflow_add-n c = omega (arith, powers_up 10 c.loop-byte.byte-index 17 (omega arith) (omega arith), c.loop-byte.invariant.0, c.in_ok-n.ensures.within)

pub returns-in_err-n-clause-value : goal.returns-in_err-n-clause-value
unfolding up_to_eighteen_digits_at
returns-in_err-n-clause-value c =
    c.from_residual.ensures
    ∙ bad_digit digit_of 10 c.args.digits.now c.loop-byte.byte-index c.loop-byte.n c.loop-byte-test.true c.loop-byte.invariant.1 (sym c.digit.ensures.value ∙ c.in_err-n.was)
    (nat_lt 0 (length c.args.digits.now) && nat_le (length c.args.digits.now) 18)

pub returns-clause-within : goal.returns-clause-within
returns-clause-within c = omega (arith, powers_up 10 c.loop-byte.byte-index 18 (omega arith) (omega arith), c.loop-byte.invariant.0)
