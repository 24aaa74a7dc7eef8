-- A road layer that is contracted whole: its nodes from the lowest on, with what leads up and down among them.
use Rattle.std.specs.Prelude.{ℕ, ◌+◌, ◌<◌, ◌≤◌, ◌⊎◌, List, length, Contains}
use Rattle.hierarchy.specs.{Hop, AreHops, total}
pub use Rattle.sweeps.specs.declared.sheet.Sheet.{Sheet}
use Rattle.sweeps.specs.{Rows.row_at, Slopes.leg_by, Slopes.LeadsDown}

-- ---- legs between places

-- a leg leads from place i up to place j
abbrev pub LeadsUp : Sheet → ℕ → ℕ → ℕ → Type 0
LeadsUp s i j w = (i < length s.slope.nodes.items) × Contains (row_at s.ups i) (leg_by j w)

abbrev pub LeadsBetween : Sheet → ℕ → ℕ → ℕ → Type 0
LeadsBetween s i j w = LeadsUp s i j w ⊎ LeadsDown s.slope i j w

-- a walk up and then down, that takes no longer than the limit
pub record HasWayOver (s : Sheet) (i j limit : ℕ) : Type 0 where
  pub peak : ℕ
  pub climb : List Hop
  pub descent : List Hop
  pub climbs : AreHops (LeadsUp s) i climb peak
  pub descends : AreHops (LeadsDown s.slope) peak descent j
  pub within : total climb + total descent ≤ limit

-- for each walk there is one up and down that takes no longer
abbrev pub IsWhole : Sheet → Type 0
IsWhole s = (i j : ℕ) (hops : List Hop) → AreHops (LeadsBetween s) i hops j → HasWayOver s i j (total hops)
