-- One contraction, and what entries keep of the roads.
use Rattle.std.specs.Prelude.{◌≡◌, ◌≢◌, ℕ, ◌+◌, ◌<◌, ◌≤◌, ◌^◌, ◌⊎◌, List, [], ◌∷◌, ◌++◌, Some, All, Contains}
use Rattle.mode_network.specs.{NetworkLists.NetworkLists, Leads}
use Rattle.hierarchy.specs.{declared.entry.Entry.Entry, Hops.Hop, Hops.AreHops, Hops.AreAll, Hops.total, Lists.HierarchyLists, Lists.IsCore, Lists.IsContracted, Soundness.HasEntry, Soundness.HasLighter, Soundness.IsFree, Soundness.IsBridged, Soundness.IsSound}

-- an entry by way of x between two other core nodes
pub record IsShortcut (h : HierarchyLists) (x : ℕ) (e : Entry) : Type 0 where
  pub via : e.via ≡ Some x
  pub first : ℕ
  pub second : ℕ
  pub is_first : HasEntry h.entries e.from x first
  pub is_second : HasEntry h.entries x e.to second
  pub sum : e.weight ≡ first + second
  pub core_from : IsCore h.order e.from
  pub core_to : IsCore h.order e.to
  pub differ : e.from ≢ e.to
  pub light : e.weight < 2 ^ 56

-- the free core node x is contracted next: entries at contracted nodes stay, others only get lighter, and what leads by way of x is bridged
pub record IsContractedNext (n : NetworkLists) (h : HierarchyLists) (x : ℕ) (h2 : HierarchyLists) : Type 0 where
  pub order : h2.order ≡ h.order ++ x ∷ []
  pub core : IsCore h.order x
  pub free : IsFree n x
  pub kept : (e : Entry) → Contains h.entries e → IsContracted h2.order e.from ⊎ IsContracted h2.order e.to → Contains h2.entries e
  pub lighter : (u v w : ℕ) → HasEntry h.entries u v w → HasLighter h2.entries u v w
  pub made : (e : Entry) → Contains h2.entries e → Contains h.entries e ⊎ IsShortcut h x e
  pub witnesses : All (Contains h2.witnesses) h.witnesses
  pub bridged : (u v a b : ℕ) → IsCore h.order u → IsCore h.order v → HasEntry h.entries u x a → HasEntry h.entries x v b → u ≢ v → IsBridged h2 x u v (a + b)

abbrev pub ContractionsKeepSoundness : Type 0
ContractionsKeepSoundness = (n : NetworkLists) (h : HierarchyLists) (x : ℕ) (h2 : HierarchyLists) → IsSound n h → IsContractedNext n h x h2 → IsSound n h2

-- a walk over entries in the core
pub record HasCoreWalk (h : HierarchyLists) (u v limit : ℕ) : Type 0 where
  pub hops : List Hop
  pub walk : AreHops (HasEntry h.entries) u hops v
  pub core : AreAll (IsCore h.order) hops
  pub within : total hops ≤ limit

-- road arcs that take together so long
pub record HasRoads (n : NetworkLists) (u v weight : ℕ) : Type 0 where
  pub hops : List Hop
  pub walk : AreHops (Leads n.arcs) u hops v
  pub weighs : total hops ≡ weight

-- between core nodes no roads are shorter than the entries of the core
abbrev pub CoresKeepDistances : Type 0
CoresKeepDistances = (n : NetworkLists) (h : HierarchyLists) → IsSound n h → (u v : ℕ) (roads : List Hop) → IsCore h.order u → IsCore h.order v → AreHops (Leads n.arcs) u roads v
    → HasCoreWalk h u v (total roads)

-- and entries are no shorter than the roads
abbrev pub EntriesAreRoads : Type 0
EntriesAreRoads = (n : NetworkLists) (h : HierarchyLists) → IsSound n h → (u v : ℕ) (hops : List Hop) → AreHops (HasEntry h.entries) u hops v → HasRoads n u v (total hops)
