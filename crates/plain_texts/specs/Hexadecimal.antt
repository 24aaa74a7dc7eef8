-- Numbers from 1 to 2 ^ 128 - 1 as 1 to 32 lower-case hexadecimal digits, the first of them not 0.
use Rattle.std.specs.Prelude.{ℕ, ◌+◌, ◌-◌, ◌*◌, ◌^◌, ◌<◌, List, [], ◌∷◌, map, Option, Some, None, option_and_then, fold, nat_le, nat_lt, nat_eq, ◌&&◌, if◌then◌else◌}
use Rattle.std.specs.Int.Digits.{digits_of}
use Rattle.plain_texts.specs.Digits.{more}

-- the lower-case digit of a value below 16
abbrev pub glyph : ℕ → ℕ
glyph d = if nat_lt d 10 then 48 + d else 87 + d

-- the one spelling of a number
unfoldable pub hexadecimal : ℕ → List ℕ
hexadecimal n = map glyph (digits_of 16 n)

-- the numbers that have one: as sets of days, those that are not empty
pub record IsHexadecimal (n : ℕ) : Type 0 where
  pub some : 0 < n
  pub within : n < 2 ^ 128

-- what a byte stands for as a hexadecimal digit
abbrev pub hexadecimal_digit_of : ℕ → Option ℕ
hexadecimal_digit_of b =
    if nat_le 48 b && nat_le b 57 then Some (b - 48)
    else (if nat_le 97 b && nat_le b 102 then Some (b - 87) else None)

-- a digit more, where there are fewer than 32
abbrev pub hexadecimal_step : ℕ → ℕ → Option ℕ
hexadecimal_step v b = option_and_then (λ d. if nat_lt v (2 ^ 124) then Some (v * 16 + d) else None) (hexadecimal_digit_of b)

-- the first digit, which is not 0
abbrev pub first_hexadecimal : ℕ → Option ℕ
first_hexadecimal b = if nat_eq b 48 then None else hexadecimal_digit_of b

-- the number that a text spells
unfoldable pub hexadecimal_at : List ℕ → Option ℕ
hexadecimal_at [] = None
hexadecimal_at (b ∷ bs) = fold (more hexadecimal_step) (first_hexadecimal b) bs
