-- Degrees as a map's text and a timetable's tables write them: an optional minus, 1 to 3 digits, and
-- optionally a point and 1 to 18 digits. The unit is 10^-7 degree, and digits past the seventh are dropped.
use Rattle.std.specs.Prelude.{ℕ, ◌+◌, ◌-◌, ◌*◌, ◌^◌, List, [], ◌∷◌, length, take, drop, position, ℤ, pos, neg_ℤ, Bool, ◌&&◌, ◌==◌, nat_le, nat_lt, Option, Some, None, option_and_then, option_map, if◌then◌else◌}
use Rattle.std.specs.Char.{is_ascii_digit}
use Rattle.std.specs.List.{list_all}
use Rattle.plain_texts.specs.{fixed_at}

-- the units in a degree
abbrev pub degree : ℕ
degree = 10 ^ 7

abbrev pub is_point : ℕ → Bool
is_point byte = byte == 46

-- at least one digit, and at most so many
abbrev pub are_digits : ℕ → List ℕ → Bool
are_digits most digits = nat_lt 0 (length digits) && (nat_le (length digits) most && list_all is_ascii_digit digits)

-- the units in the digits before the point: whole degrees
abbrev pub whole_of : List ℕ → Option ℕ
whole_of digits = if are_digits 3 digits then option_map (λ n. n * degree) (fixed_at digits) else None

-- the units in the digits behind the point: the first seven of them
abbrev pub part_of : List ℕ → Option ℕ
part_of digits =
    if are_digits 18 digits then option_map (λ n. n * 10 ^ (7 - length digits)) (fixed_at (take 7 digits)) else None

-- the units in a text without a sign, by the place of its point
abbrev pub units_at : Option ℕ → List ℕ → Option ℕ
units_at None text = whole_of text
units_at (Some point) text =
    option_and_then (λ whole. option_map (λ part. whole + part) (part_of (drop (point + 1) text))) (whole_of (take point text))

abbrev pub units_of : List ℕ → Option ℕ
units_of text = units_at (position is_point text) text

-- the units in a text without a sign, where they are at most so many degrees
abbrev pub size_of : ℕ → List ℕ → Option ℕ
size_of most text = option_and_then (λ n. if nat_le n (most * degree) then Some n else None) (units_of text)

-- the degrees of at most this size that a text spells, in units of 10^-7 degree
unfoldable pub degrees_of : ℕ → List ℕ → Option ℤ
degrees_of most [] = None
degrees_of most (b ∷ bs) =
    if b == 45 then option_map (λ n. neg_ℤ (pos n)) (size_of most bs)
    else option_map pos (size_of most (b ∷ bs))
