-- Ids in a map's text: an optional minus and 1 to 18 digits, which may begin with zeros.
use Rattle.std.specs.Prelude.{ℕ, ◌+◌, ◌*◌, List, [], ◌∷◌, length, fold, ℤ, pos, neg_ℤ, ◌&&◌, ◌==◌, nat_le, nat_lt, Option, Some, None, option_map, if◌then◌else◌}
use Rattle.plain_texts.specs.{digit_of, more}

-- a digit more
abbrev pub digit_step : ℕ → ℕ → Option ℕ
digit_step n b = option_map (λ d. n * 10 + d) (digit_of b)

-- the number that 1 to 18 digits spell
unfoldable pub up_to_eighteen_digits_at : List ℕ → Option ℕ
up_to_eighteen_digits_at digits =
    if nat_lt 0 (length digits) && nat_le (length digits) 18 then fold (more digit_step) (Some 0) digits else None

-- the id that a text spells
unfoldable pub osm_id_at : List ℕ → Option ℤ
osm_id_at [] = None
osm_id_at (b ∷ bs) =
    if b == 45 then option_map (λ n. neg_ℤ (pos n)) (up_to_eighteen_digits_at bs)
    else option_map pos (up_to_eighteen_digits_at (b ∷ bs))
