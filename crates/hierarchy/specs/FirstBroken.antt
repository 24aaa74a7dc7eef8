-- The verdict on a hierarchy: it is sound, or the first clause that fails is named, at its least place.
use Rattle.std.specs.Prelude.{◌≡◌, ℕ, ◌⊎◌, List, length, Some, All, slice_get, HoldsAt}
use Rattle.search_laws.specs.{HoldsBelow, FailsFirstAt}
use Rattle.mode_network.specs.NetworkLists.{NetworkLists}
use Rattle.hierarchy.specs.{declared.entry.Entry.Entry, Lists.HierarchyLists, Soundness.MayStandAt, Soundness.FitsLayer, Soundness.IsCovered, Soundness.IsMade, Soundness.NodeIsBridged, Soundness.PairsAreBridged, Soundness.PairIsBridged, Soundness.IsSound}
pub use Rattle.hierarchy.specs.{declared.verdict.Verdict.Verdict, declared.verdict.Verdict.TheVariants.Sound, declared.verdict.Verdict.TheVariants.Broken}

-- P fails of the element at k, and of none before it
abbrev pub FailsFirst : {X : Type 0} → (X → Type 0) → List X → ℕ → Type 0
FailsFirst P xs k = FailsFirstAt (length xs) (HoldsAt P xs) k

abbrev pub OrderHolds : NetworkLists → HierarchyLists → Type 0
OrderHolds n h = HoldsBelow (length h.order) (MayStandAt n h.order)

-- a pair that is not bridged is the first one: by the place of its middle node in the order, then by the entry to it and the entry from it
pub record BridgesFailFirst (h : HierarchyLists) (at by : ℕ) : Type 0 where
  pub place : ℕ
  pub x : ℕ
  pub first : Entry
  pub node_is : slice_get h.order place ≡ Some x
  pub first_is : slice_get h.entries at ≡ Some first
  pub node_fails : FailsFirst (NodeIsBridged h) h.order place
  pub entry_fails : FailsFirst (PairsAreBridged h x) h.entries at
  pub pair_fails : FailsFirst (PairIsBridged h x first) h.entries by

-- the clauses are tried in the order 1, 5, 2, 3, 4
abbrev pub IsFirstBroken : NetworkLists → HierarchyLists → ℕ → ℕ → ℕ → Type 0
IsFirstBroken n h clause at by =
    ((clause ≡ 1) × (by ≡ 0) × FailsFirstAt (length h.order) (MayStandAt n h.order) at)
    ⊎ ((clause ≡ 5) × (by ≡ 0) × OrderHolds n h × FailsFirst (FitsLayer n) h.entries at)
    ⊎ ((clause ≡ 2) × (by ≡ 0) × OrderHolds n h × All (FitsLayer n) h.entries × FailsFirst (IsCovered h) n.arcs at)
    ⊎ ((clause ≡ 3) × (by ≡ 0) × OrderHolds n h × All (FitsLayer n) h.entries × All (IsCovered h) n.arcs × FailsFirst (IsMade n h) h.entries at)
    ⊎ ((clause ≡ 4) × OrderHolds n h × All (FitsLayer n) h.entries × All (IsCovered h) n.arcs × All (IsMade n h) h.entries × BridgesFailFirst h at by)

abbrev pub IsSoundnessVerdict : NetworkLists → HierarchyLists → Verdict → Type 0
IsSoundnessVerdict n h Sound = IsSound n h
IsSoundnessVerdict n h (Broken clause at by) = IsFirstBroken n h clause at by
