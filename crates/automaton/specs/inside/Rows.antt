-- What may be read after each position, when a part stands before a known set of positions.
use Rattle.std.specs.Prelude.{ℕ, ◌+◌, ◌-◌, Bool, false, ◌&&◌, ◌||◌, List, [], ◌∷◌, ◌++◌, slice_index_or}
use Rattle.automaton.specs.Written.{Written, nothing, nowhere, letter, sequence, choice, optional, plus, size, nullable, first}

-- A position: its letters, and what may be read right after it. The end of the word is 0.
pub record PositionRow : Type 0 where
  pub letters : ℕ
  pub next : ℕ → Bool

-- what may be read where a part begins, and K after it
abbrev pub entry : Written → ℕ → (ℕ → Bool) → ℕ → Bool
entry e o K q = first e o q || (nullable e && K q)

-- the positions of a part from o + 1 on, in order, where K may be read after it
abbrev pub position_rows : Written → ℕ → (ℕ → Bool) → List PositionRow
position_rows nothing o K = []
position_rows nowhere o K = []
position_rows (letter bits) o K = record { letters = bits; next = K } ∷ []
position_rows (sequence a b) o K = position_rows a o (entry b (o + size a) K) ++ position_rows b (o + size a) K
position_rows (choice a b) o K = position_rows a o K ++ position_rows b (o + size a) K
position_rows (optional a) o K = position_rows a o K
position_rows (plus a) o K = position_rows a o (λ q. first a o q || K q)

abbrev pub no_row : PositionRow
no_row = record { letters = 0; next = λ _. false }

-- the row of the position p
abbrev pub position_row : List PositionRow → ℕ → PositionRow
position_row list p = slice_index_or list (p - 1) no_row
