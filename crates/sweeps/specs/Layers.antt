-- Slopes and sheets of a hierarchy, and when a sheet is whole.
use Rattle.std.specs.Prelude.{◌≡◌, ℕ, ◌<◌, ◌≤◌, ◌^◌, ◌⊎◌, true, false, List, length, map, All, Contains, slice_index}
use Rattle.search_laws.specs.{Leg}
use Rattle.mode_network.specs.NetworkLists.{NetworkLists}
use Rattle.hierarchy.specs.{Hop, HierarchyLists, height_in, IsContracted, HasEntry, IsSound, IsHierarchy, Fall, falls_into, has_legs, legs_from, number_before}
use Rattle.sweeps.specs.{Rows.row_at, Slopes.Slope, Sheets.Sheet, Sheets.IsWhole}

-- a leg up as the hierarchy has it, by the node that it leads to
abbrev pub outward : List ℕ → Leg → Leg
outward nodes leg = record { to = number_before (slice_index nodes leg.to); ms = leg.ms }

-- a leg down by the node that it comes from
abbrev pub origin : List ℕ → Leg → Hop
origin nodes leg = record { to = slice_index nodes leg.to; weight = leg.ms }

abbrev pub origin_of : Fall → Hop
origin_of fall = record { to = fall.from; weight = fall.weight }

-- the slope has these nodes, and at each of them what leads down to it in the hierarchy
pub record IsSlopeOf (h : HierarchyLists) (nodes : List ℕ) (s : Slope) : Type 0 where
  pub nodes_are : s.nodes.items ≡ nodes
  pub downs : (i : ℕ) → i < length nodes → map (origin nodes) (row_at s.downs i) ≡ map origin_of (falls_into h (slice_index nodes i))

-- the sheet has the slope of these nodes, and at each of them what leads up from it in the hierarchy
pub record IsSheetOf (h : HierarchyLists) (nodes : List ℕ) (s : Sheet) : Type 0 where
  pub slope : IsSlopeOf h nodes s.slope
  pub short : has_legs h ≡ true
  pub ups : (i : ℕ) → i < length nodes → map (outward nodes) (row_at s.ups i) ≡ legs_from h (slice_index nodes i)

-- ---- why nodes have none

-- a node stands at a place behind place i
pub record StandsBehind (nodes : List ℕ) (i v : ℕ) : Type 0 where
  pub place : ℕ
  pub behind : i < place
  pub within : place < length nodes
  pub is : slice_index nodes place ≡ v

-- what stands at a place is no number of a node, or stands at a place before
pub record IsNoNewNode (nodes : List ℕ) (i : ℕ) : Type 0 where
  pub within : i < length nodes
  pub why : (2 ^ 24 ≤ slice_index nodes i) ⊎ ((j : ℕ) × (j < i) × (slice_index nodes j ≡ slice_index nodes i))

-- a leg up leads to no node that stands behind place i
pub record LeadsElsewhere (nodes : List ℕ) (i : ℕ) (legs : List Leg) : Type 0 where
  pub leg : Leg
  pub of : Contains legs leg
  pub nowhere : (v : ℕ) → leg.to ≡ number_before v → StandsBehind nodes i v → ⊥

-- a leg down comes from no node that stands behind place i, or takes 2^32 ms or longer
pub record ComesFromElsewhere (nodes : List ℕ) (i : ℕ) (falls : List Fall) : Type 0 where
  pub fall : Fall
  pub of : Contains falls fall
  pub why : (StandsBehind nodes i fall.from → ⊥) ⊎ (2 ^ 32 ≤ fall.weight)

abbrev pub HasNoSlope : HierarchyLists → List ℕ → Type 0
HasNoSlope h nodes =
    ((i : ℕ) × IsNoNewNode nodes i)
    ⊎ ((i : ℕ) × (i < length nodes) × ComesFromElsewhere nodes i (falls_into h (slice_index nodes i)))

abbrev pub HasNoSheet : HierarchyLists → List ℕ → Type 0
HasNoSheet h nodes =
    (has_legs h ≡ false)
    ⊎ HasNoSlope h nodes
    ⊎ ((i : ℕ) × (i < length nodes) × LeadsElsewhere nodes i (legs_from h (slice_index nodes i)))

-- ---- whole ones

-- nodes that are contracted, lowest first; no entry leads from one of them to another node, or from there to one of them
pub record IsLayer (h : HierarchyLists) (nodes : List ℕ) : Type 0 where
  pub contracted : All (IsContracted h.order) nodes
  pub ascend : (i j : ℕ) → i < j → j < length nodes → height_in h.order (slice_index nodes i) < height_in h.order (slice_index nodes j)
  pub apart : (u v w : ℕ) → HasEntry h.entries u v w → Contains nodes u ⊎ Contains nodes v → Contains nodes u × Contains nodes v

-- a sheet of such nodes is whole, where the hierarchy is sound
abbrev pub SheetsAreWhole : Type 0
SheetsAreWhole = (n : NetworkLists) (h : HierarchyLists) (nodes : List ℕ) (s : Sheet) → IsHierarchy h → IsSound n h → IsLayer h nodes → IsSheetOf h nodes s → IsWhole s
