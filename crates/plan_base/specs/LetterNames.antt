-- The names of the letters of words: means of transport, in the order of their numbers. Three are roads' modes, numbers
-- 0 to 2; eleven run by a timetable, numbers 3 to 13.
use Rattle.std.specs.Prelude.{ℕ, List, [], ◌∷◌, ◌++◌, codes}

abbrev pub road_names : List (List ℕ)
road_names = codes "foot" ∷ codes "bike" ∷ codes "car" ∷ []

abbrev pub transit_names : List (List ℕ)
transit_names =
    codes "tram" ∷ codes "metro" ∷ codes "rail" ∷ codes "bus" ∷ codes "ferry" ∷ codes "cable" ∷ codes "lift"
    ∷ codes "funicular" ∷ codes "trolley" ∷ codes "monorail" ∷ codes "other" ∷ []

-- the names of the letters 0 to 13
abbrev pub letter_names : List (List ℕ)
letter_names = road_names ++ transit_names
