-- Numbers are read digit by digit, from the left.
use Rattle.std.specs.Prelude.{ℕ, ◌-◌, Option, Some, None, option_and_then, nat_le, ◌&&◌, if◌then◌else◌}

-- what a byte stands for as a decimal digit
abbrev pub digit_of : ℕ → Option ℕ
digit_of b = if nat_le 48 b && nat_le b 57 then Some (b - 48) else None

-- A step takes the value so far and the next byte to the new value; a text that was refused stays refused.
abbrev pub more : (ℕ → ℕ → Option ℕ) → Option ℕ → ℕ → Option ℕ
more step value b = option_and_then (λ v. step v b) value
