-- The core of a hierarchy as a network: its road nodes, and an arc for each entry between two core nodes.
use Rattle.std.specs.Prelude.{◌≡◌, ℕ, ◌^◌, ◌<◌, ◌≤◌, ◌⊎◌, Bool, true, ◌&&◌, List, [], length, map, filter, Contains}
use Rattle.mode_network.specs.{Arc, NetworkLists.NetworkLists}
use Rattle.hierarchy.specs.{Entry, HierarchyLists, IsSound, is_core}

abbrev pub is_core_entry : List ℕ → Entry → Bool
is_core_entry order e = is_core order e.from && is_core order e.to

abbrev pub core_arc : Entry → Arc
core_arc e = record { from = e.from; to = e.to; ms = e.weight }

abbrev pub core_arcs : HierarchyLists → List Arc
core_arcs h = map core_arc (filter (is_core_entry h.order) h.entries)

-- The network has these arcs, and no links. The nodes keep their numbers, as road nodes have the first ones. What else a network has is
-- left free, as no hierarchy asks for it.
pub record IsCoreOf (n : NetworkLists) (h : HierarchyLists) (core : NetworkLists) : Type 0 where
  pub roads : core.roads ≡ n.roads
  pub arcs : core.arcs ≡ core_arcs h
  pub links : core.links ≡ []

-- an entry between two core nodes takes 2^32 ms or longer, which is no duration of an arc
pub record HasLongEntry (h : HierarchyLists) : Type 0 where
  pub entry : Entry
  pub listed : Contains h.entries entry
  pub core : is_core_entry h.order entry ≡ true
  pub long : 2 ^ 32 ≤ entry.weight

-- that, or there are more of them than a network may have arcs
abbrev pub HasNoNetwork : HierarchyLists → Type 0
HasNoNetwork h = HasLongEntry h ⊎ (2 ^ 26 < length (core_arcs h))

-- the core has a network, for which this hierarchy of it is sound
pub record IsSoundOnCore (n : NetworkLists) (h k : HierarchyLists) : Type 0 where
  pub network : NetworkLists
  pub core : IsCoreOf n h network
  pub fits : HasNoNetwork h → ⊥
  pub sound : IsSound network k
