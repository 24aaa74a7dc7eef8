-- Escapes in keys and values: a character is written as 1 to 6 hexadecimal digits between percent signs.
-- Every other byte stands for itself.
use Rattle.std.specs.Prelude.{ℕ, ◌+◌, ◌-◌, ◌*◌, List, [], ◌∷◌, ◌++◌, length, fold, encode_utf8, ◌&&◌, ◌||◌, nat_le, nat_lt, Option, Some, None, option_and_then, option_map, if◌then◌else◌}
use Rattle.std.specs.List.{slice_split}
use Rattle.plain_texts.specs.{more}
use Rattle.opl_reader.specs.{Optional.◌>>=◌, Cuts.is_byte}

-- what a byte stands for as a hexadecimal digit, in either case
abbrev pub either_case_digit_of : ℕ → Option ℕ
either_case_digit_of b =
    if nat_le 48 b && nat_le b 57 then Some (b - 48)
    else (if nat_le 65 b && nat_le b 70 then Some (b - 55)
    else (if nat_le 97 b && nat_le b 102 then Some (b - 87) else None))

-- a digit more
abbrev pub either_case_step : ℕ → ℕ → Option ℕ
either_case_step n b = option_map (λ d. n * 16 + d) (either_case_digit_of b)

-- the number that 1 to 6 hexadecimal digits spell
unfoldable pub hexadecimal_scalar_at : List ℕ → Option ℕ
hexadecimal_scalar_at digits =
    if nat_lt 0 (length digits) && nat_le (length digits) 6 then fold (more either_case_step) (Some 0) digits else None

-- the characters are the Unicode scalar values: no surrogate, and none above 10ffff
abbrev pub scalar_of : ℕ → Option ℕ
scalar_of n = if nat_lt n 0xd800 || (nat_le 0xe000 n && nat_lt n 0x110000) then Some n else None

-- the character that stands between two percent signs
unfoldable pub character_at : List ℕ → Option ℕ
character_at digits = option_and_then scalar_of (hexadecimal_scalar_at digits)

-- What stands before, between and behind the percent signs is by turns bytes and a character, and ends
-- with bytes.
abbrev pub by_turns : List (List ℕ) → Option (List ℕ)
by_turns [] = None
by_turns (bytes ∷ []) = Some bytes
by_turns (bytes ∷ digits ∷ others) = do
  character ← character_at digits
  rest ← by_turns others
  Some (bytes ++ encode_utf8 character ++ rest)

-- the bytes that a key or a value stands for
unfoldable pub unescaped : List ℕ → Option (List ℕ)
unescaped text = by_turns (slice_split (is_byte 37) text)
