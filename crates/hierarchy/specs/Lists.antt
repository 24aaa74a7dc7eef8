-- What a hierarchy consists of, as lists; and which nodes are above which.
use Rattle.std.specs.Prelude.{ℕ, suc, ◌<◌, ◌-◌, ◌==◌, nat_lt, Bool, List, [], ◌∷◌, length, slice_index, if◌then◌else◌, ◌≡◌}
pub use Rattle.hierarchy.specs.declared.entry.Entry.{Entry}

-- a walk of nodes, listed for a node below them
pub record WitnessLists : Type 0 where
  pub below : ℕ
  pub nodes : List ℕ

pub record HierarchyLists : Type 0 where
  pub order : List ℕ
  pub entries : List Entry
  pub witnesses : List WitnessLists

-- the first and the last node of a walk
abbrev pub first_of : List ℕ → ℕ
first_of nodes = slice_index nodes 0

abbrev pub last_of : List ℕ → ℕ
last_of nodes = slice_index nodes (length nodes - 1)

-- the height of a node is its first place in the order in which nodes were contracted; a core node, which is not in the order, is
-- as high as the order is long
abbrev pub height_in : List ℕ → ℕ → ℕ
height_in [] v = 0
height_in (x ∷ order) v = if x == v then 0 else suc (height_in order v)

-- v is above u: two core nodes are not above each other
abbrev pub IsAbove : List ℕ → ℕ → ℕ → Type 0
IsAbove order v u = height_in order u < height_in order v

abbrev pub is_above : List ℕ → ℕ → ℕ → Bool
is_above order v u = nat_lt (height_in order u) (height_in order v)

abbrev pub IsContracted : List ℕ → ℕ → Type 0
IsContracted order v = height_in order v < length order

abbrev pub is_contracted : List ℕ → ℕ → Bool
is_contracted order v = nat_lt (height_in order v) (length order)

abbrev pub IsCore : List ℕ → ℕ → Type 0
IsCore order v = height_in order v ≡ length order
