-- Decimal numbers without a sign, and with one. The spelling of a number is std's `decimal`, and that of
-- a signed number `signed_decimal`: no leading zero, no `+`, and no `-0`.
use Rattle.std.specs.Prelude.{ℕ, zero, suc, ◌+◌, ◌*◌, ◌^◌, ◌<◌, List, [], ◌∷◌, ℤ, pos, negsuc, unsigned_abs, Option, Some, None, option_and_then, option_map, fold, nat_le, nat_lt, nat_eq, ◌==◌, ◌||◌, if◌then◌else◌}
use Rattle.plain_texts.specs.Digits.{digit_of, more}

-- a digit more: not after a lone 0, nor where the number has grown past what is allowed
abbrev pub number_step : ℕ → ℕ → ℕ → Option ℕ
number_step below v b = option_and_then (λ d. if nat_eq v 0 || nat_le below v then None else Some (v * 10 + d)) (digit_of b)

abbrev pub digits_at : ℕ → List ℕ → Option ℕ
digits_at below [] = None
digits_at below (b ∷ bs) = fold (more (number_step below)) (digit_of b) bs

-- the number below the bound that a text spells
unfoldable pub number_at : ℕ → List ℕ → Option ℕ
number_at below text = option_and_then (λ n. if nat_lt n below then Some n else None) (digits_at below text)

-- The value of a row of digits, however many there are and whatever zeros lead.
abbrev pub value_step : ℕ → ℕ → Option ℕ
value_step v b = option_map (λ d. v * 10 + d) (digit_of b)

unfoldable pub value_at : List ℕ → Option ℕ
value_at digits = fold (more value_step) (Some 0) digits

-- A minus stands before each number but 0.
abbrev pub minus : ℕ → Option ℤ
minus zero = None
minus (suc n) = Some (negsuc n)

-- the signed number that a text spells, of a size below the bound
unfoldable pub signed_at : ℕ → List ℕ → Option ℤ
signed_at below [] = None
signed_at below (b ∷ bs) =
    if b == 45 then option_and_then minus (number_at below bs)
    else option_map pos (number_at below (b ∷ bs))

-- An id is a signed number of at most 18 digits.
abbrev pub IsId : ℤ → Type 0
IsId z = unsigned_abs z < 10 ^ 18

abbrev pub id_at : List ℕ → Option ℤ
id_at text = signed_at (10 ^ 18) text
