-- A letter more after a word that is collapsed.
use Rattle.std.specs.Prelude.{ℕ, ◌-◌, ◌&&◌, ◌==◌, nat_lt, List, [], ◌∷◌, ◌++◌, length, Bool, false, Option, Some, None, slice_get, if◌then◌else◌}

-- whether a letter goes on with the one before it: both are one road mode
abbrev pub repeats_road : Option ℕ → ℕ → Bool
repeats_road None letter = false
repeats_road (Some last) letter = (last == letter) && nat_lt last 3

-- a letter that goes on with the last one is no letter more
abbrev pub appended : List ℕ → ℕ → List ℕ
appended word letter = if repeats_road (slice_get word (length word - 1)) letter then word else (word ++ letter ∷ [])

-- a letter, if there is one
abbrev pub with_letter : List ℕ → Option ℕ → List ℕ
with_letter word None = word
with_letter word (Some letter) = appended word letter
