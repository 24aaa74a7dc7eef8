-- Automata that read no letter of transit.
use Rattle.std.specs.Prelude.{ℕ, ◌<◌, ◌≤◌, IsBitSet}
use Rattle.search_laws.specs.{IsLetter, LabelsMeaning}

-- the letters of transit are those from tram, which is 3, on
abbrev pub IsTransit : ℕ → Type 0
IsTransit c = (3 ≤ c) × IsLetter c

-- no move of the state q is by one
abbrev pub NoneByTransit : LabelsMeaning → ℕ → Type 0
NoneByTransit l q = (i c : ℕ) → i < l.moves q → IsTransit c → IsBitSet (l.move_at q i).letters c → ⊥

-- no move is
abbrev pub ReadsNoTransit : LabelsMeaning → Type 0
ReadsNoTransit l = (q : ℕ) → q < l.states → NoneByTransit l q
