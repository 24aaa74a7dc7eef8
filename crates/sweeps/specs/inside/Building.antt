-- What the rows of a sheet are made of.
use Rattle.std.specs.Prelude.{◌≡◌, ℕ, ◌+◌, ◌<◌, List, length, map, slice_index}
use Rattle.search_laws.specs.{Leg}
use Rattle.hierarchy.specs.{HierarchyLists, Fall, falls_into, legs_from}
use Rattle.sweeps.specs.Rows.{Rows, row_at, count_of, LeadOnFrom}
use Rattle.sweeps.specs.Layers.{outward, origin, origin_of}

-- the rows are those before, and behind them this one
pub record IsOneMoreRow (before : Rows) (row : List Leg) (after : Rows) : Type 0 where
  pub count : count_of after ≡ count_of before + 1
  pub kept : (i : ℕ) → i < count_of before → row_at after i ≡ row_at before i
  pub last : row_at after (count_of before) ≡ row

-- the row of place i has these legs of the hierarchy
pub record AreUps (nodes : List ℕ) (i : ℕ) (legs row : List Leg) : Type 0 where
  pub on : LeadOnFrom (length nodes) i row
  pub are : map (outward nodes) row ≡ legs

-- the row of place i has these entries of the hierarchy, that lead down to there
pub record AreDowns (nodes : List ℕ) (i : ℕ) (falls : List Fall) (row : List Leg) : Type 0 where
  pub on : LeadOnFrom (length nodes) i row
  pub are : map (origin nodes) row ≡ map origin_of falls

-- so many rows, of each of which P holds
pub record AreRowsOf (P : ℕ → List Leg → Type 0) (count : ℕ) (rows : Rows) : Type 0 where
  pub as_many : count_of rows ≡ count
  pub each : (i : ℕ) → i < count → P i (row_at rows i)

abbrev pub AreUpsAt : HierarchyLists → List ℕ → ℕ → List Leg → Type 0
AreUpsAt h nodes i row = AreUps nodes i (legs_from h (slice_index nodes i)) row

abbrev pub AreDownsAt : HierarchyLists → List ℕ → ℕ → List Leg → Type 0
AreDownsAt h nodes i row = AreDowns nodes i (falls_into h (slice_index nodes i)) row

-- the node stands at this place, which is behind place i
pub record IsPlaceBehind (nodes : List ℕ) (i node place : ℕ) : Type 0 where
  pub behind : i < place
  pub within : place < length nodes
  pub is : slice_index nodes place ≡ node
