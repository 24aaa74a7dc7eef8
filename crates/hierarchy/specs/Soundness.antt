-- When a hierarchy is sound for a network: then whatever order, shortcuts and witnesses it has, it keeps all distances.
use Rattle.std.specs.Prelude.{◌≡◌, ◌≢◌, ℕ, ◌+◌, ◌<◌, ◌≤◌, ◌^◌, ◌⊎◌, List, length, Option, Some, None, All, Contains, slice_index_or}
use Rattle.search_laws.specs.{HoldsBelow}
use Rattle.plan_base.specs.{Mode}
use Rattle.mode_network.specs.{Arc, mode_at, Leads, NetworkLists.NetworkLists}
use Rattle.hierarchy.specs.{declared.entry.Entry.Entry, Hops.Hop, Hops.AreHops, Hops.AreHigh, Hops.total, Hops.nodes_along, Lists.HierarchyLists, Lists.height_in, Lists.IsAbove}

-- an entry leads from u to v and weighs so much
abbrev pub HasEntry : List Entry → ℕ → ℕ → ℕ → Type 0
HasEntry entries u v weight = (via : Option ℕ) × Contains entries (record { from = u; to = v; weight = weight; via = via })

-- an entry leads from u to v and is no heavier than the limit
abbrev pub HasLighter : List Entry → ℕ → ℕ → ℕ → Type 0
HasLighter entries u v limit = (weight : ℕ) × HasEntry entries u v weight × (weight ≤ limit)

-- ---- clause 1, at a place of the order: a road node that no link joins, and that does not stand before

pub record IsFree (n : NetworkLists) (x : ℕ) : Type 0 where
  pub mode : Mode
  pub road : mode_at n.roads x ≡ Some mode
  pub none_from : All (λ link. link.from ≢ x) n.links
  pub none_to : All (λ link. link.to ≢ x) n.links

-- what stands at this place stands at no place before it
abbrev pub IsNewAt : List ℕ → ℕ → Type 0
IsNewAt order k = (j d : ℕ) → j < k → slice_index_or order j d ≢ slice_index_or order k d

abbrev pub MayStandAt : NetworkLists → List ℕ → ℕ → Type 0
MayStandAt n order k = ((d : ℕ) → IsFree n (slice_index_or order k d)) × IsNewAt order k

-- ---- clause 5, of an entry: it joins different road nodes of one layer, and is light enough to be added

pub record FitsLayer (n : NetworkLists) (e : Entry) : Type 0 where
  pub differ : e.from ≢ e.to
  pub mode : Mode
  pub from_mode : mode_at n.roads e.from ≡ Some mode
  pub to_mode : mode_at n.roads e.to ≡ Some mode
  pub light : e.weight < 2 ^ 56

-- ---- clause 2, of a road arc: an entry with its ends is no heavier

abbrev pub IsCovered : HierarchyLists → Arc → Type 0
IsCovered h arc = HasLighter h.entries arc.from arc.to arc.ms

-- ---- clause 3, of an entry: a road arc, or the sum of two entries by way of a middle node that is below both ends

pub record HasMiddle (h : HierarchyLists) (e : Entry) (m : ℕ) : Type 0 where
  pub below_from : IsAbove h.order e.from m
  pub below_to : IsAbove h.order e.to m
  pub first : ℕ
  pub second : ℕ
  pub is_first : HasEntry h.entries e.from m first
  pub is_second : HasEntry h.entries m e.to second
  pub sum : e.weight ≡ first + second

abbrev pub IsMadeBy : NetworkLists → HierarchyLists → Entry → Option ℕ → Type 0
IsMadeBy n h e None = Leads n.arcs e.from e.to e.weight
IsMadeBy n h e (Some m) = HasMiddle h e m

abbrev pub IsMade : NetworkLists → HierarchyLists → Entry → Type 0
IsMade n h e = IsMadeBy n h e e.via

-- ---- clause 4, of a contracted node x, an entry to it and an entry from it: another way is no heavier than both together

-- a listed walk leads from u to v past x, over entries among nodes above x, and weighs at most the limit
pub record HasWitness (h : HierarchyLists) (x u v limit : ℕ) : Type 0 where
  pub hops : List Hop
  pub walk : AreHops (HasEntry h.entries) u hops v
  pub above : AreHigh (height_in h.order) (height_in h.order x) hops
  pub within : total hops ≤ limit
  pub listed : Contains h.witnesses (record { below = x; nodes = nodes_along u hops })

abbrev pub IsBridged : HierarchyLists → ℕ → ℕ → ℕ → ℕ → Type 0
IsBridged h x u v limit = HasLighter h.entries u v limit ⊎ HasWitness h x u v limit

-- the entries lead by way of x from one node above it to another
pub record ArePairAt (h : HierarchyLists) (x : ℕ) (a b : Entry) : Type 0 where
  pub to_x : a.to ≡ x
  pub from_x : b.from ≡ x
  pub start_above : IsAbove h.order a.from x
  pub end_above : IsAbove h.order b.to x
  pub differ : a.from ≢ b.to

abbrev pub PairIsBridged : HierarchyLists → ℕ → Entry → Entry → Type 0
PairIsBridged h x a b = ArePairAt h x a b → IsBridged h x a.from b.to (a.weight + b.weight)

abbrev pub PairsAreBridged : HierarchyLists → ℕ → Entry → Type 0
PairsAreBridged h x a = All (PairIsBridged h x a) h.entries

abbrev pub NodeIsBridged : HierarchyLists → ℕ → Type 0
NodeIsBridged h x = All (PairsAreBridged h x) h.entries

-- ---- all five

pub record IsSound (n : NetworkLists) (h : HierarchyLists) : Type 0 where
  pub in_order : HoldsBelow (length h.order) (MayStandAt n h.order)
  pub in_layers : All (FitsLayer n) h.entries
  pub arcs_covered : All (IsCovered h) n.arcs
  pub made : All (IsMade n h) h.entries
  pub bridged : All (NodeIsBridged h) h.order
