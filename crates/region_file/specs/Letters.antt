-- The letters of trips: the means of transport that run by a timetable, numbers 3 to 13, by number and name.
use Rattle.std.specs.Prelude.{ℕ, ◌+◌, ◌-◌, List, [], Option, position, option_map, slice_index_or, bytes_eq}
use Rattle.plan_base.specs.{transit_names}

-- the name of a letter
abbrev pub letter_name : ℕ → List ℕ
letter_name letter = slice_index_or transit_names (letter - 3) []

-- the letter with this name
unfoldable pub letter_at : List ℕ → Option ℕ
letter_at name = option_map (λ place. 3 + place) (position (λ known. bytes_eq known name) transit_names)
