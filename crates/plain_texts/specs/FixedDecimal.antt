-- Decimal numbers in a field of fixed width, with leading zeros: the parts of dates and times of day.
use Rattle.std.specs.Prelude.{ℕ, zero, suc, ◌+◌, ◌*◌, ◌/◌, ◌%◌, ◌^◌, ◌<◌, List, [], ◌∷◌, ◌++◌, Option, Some, None, option_and_then, fold, nat_lt, if◌then◌else◌}
use Rattle.plain_texts.specs.Digits.{digit_of, more}

-- the last so many digits of a number
unfoldable pub fixed_decimal : ℕ → ℕ → List ℕ
fixed_decimal zero n = []
fixed_decimal (suc width) n = fixed_decimal width (n / 10) ++ (48 + n % 10) ∷ []

-- the numbers that a field of this width holds; none that is read has more than 9 digits
pub record IsFixed (width n : ℕ) : Type 0 where
  pub digits : n < 10 ^ width
  pub within : n < 10 ^ 9

abbrev pub fixed_step : ℕ → ℕ → Option ℕ
fixed_step v b = option_and_then (λ d. if nat_lt v (10 ^ 8) then Some (v * 10 + d) else None) (digit_of b)

-- the value of a text of digits
unfoldable pub fixed_at : List ℕ → Option ℕ
fixed_at text = fold (more fixed_step) (Some 0) text
