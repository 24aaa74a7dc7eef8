use Rattle.std.proofs.Common.{◌≡◌, ◌<◌, ◌*◌, ◌+◌, ◌^◌, arith, get_or, rules, None}
use Rattle.std.proofs.lemmas.Bool.Decides.{nat_tests}
use Rattle.plain_texts.specs.{digit_of}
use Rattle.plain_texts.proofs.ShortNumbers.{value_stops, one_more_fits}
use Rattle.plain_texts.proofs.numbers.digits_value.Goals as goal

pub returns-then-digit-gt9 : goal.returns-then-digit-gt9
returns-then-digit-gt9 c =
    let none : digit_of (get_or c.args.digits.now c.loop-byte.byte-index 0) ≡ None = grind (arith, nat_tests) in
    value_stops c.args.digits.now c.loop-byte.byte-index c.loop-byte.value (omega arith) c.loop-byte.invariant.0 none

pub overflow_mul-value : goal.overflow_mul-value
overflow_mul-value c =
    let fits : c.loop-byte.value * 10 + 0 < 10 ^ 18 = one_more_fits c.loop-byte.byte-index c.loop-byte.value 0 (omega arith) c.loop-byte.invariant.1 (omega arith) in
    search rules

pub overflow_add-value : goal.overflow_add-value
overflow_add-value c =
    let fits : c.loop-byte.value * 10 + 9 < 10 ^ 18 = one_more_fits c.loop-byte.byte-index c.loop-byte.value 9 (omega arith) c.loop-byte.invariant.1 (omega arith) in
    search rules
