use Rattle.std.proofs.Common.{◌≡◌, ◌^◌, ◌<◌, take, Some}
use Rattle.plain_texts.specs.{value_at}
use Rattle.plain_texts.proofs.numbers.digits_value.Given as goal

-- the value of the digits so far, which is as short as they are
abbrev pub invariant-loop-byte : goal.invariant-loop-byte
invariant-loop-byte l = (value_at (take l.byte-index l.digits) ≡ Some l.value) × (l.value < 10 ^ l.byte-index)
