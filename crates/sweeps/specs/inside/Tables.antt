-- A table that finds the place of a node.
use Rattle.std.specs.Prelude.{◌≡◌, ℕ, ◌<◌, List, length, slice_index}

-- for the number of each of the first so many nodes the table has its place
abbrev pub ArePlacesOf : List ℕ → ℕ → List ℕ → Type 0
ArePlacesOf nodes count table = (j : ℕ) → j < count → (slice_index nodes j < length table) × (slice_index table (slice_index nodes j) ≡ j)
