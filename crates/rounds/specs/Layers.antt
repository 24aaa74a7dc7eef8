-- The road layers of a core, each contracted whole, and where one may leave them.
use Rattle.std.specs.Prelude.{◌≡◌, ℕ, ◌<◌, ◌≤◌, ◌⊎◌, List, length, Some, All, Contains, slice_index}
use Rattle.mode_network.specs.{NetworkLists.NetworkLists, letter_at}
use Rattle.hierarchy.specs.{Hop, AreHops, total, HierarchyLists, height_in, IsContracted, IsCore, HasEntry}
use Rattle.sweeps.specs.{Sheet, LeadsBetween, IsWhole}
pub use Rattle.rounds.specs.{declared.core_layer.Gate.Gate, declared.core_layer.CoreLayer.CoreLayer}

-- an entry leads along the core
abbrev pub CoreLeads : HierarchyLists → ℕ → ℕ → ℕ → Type 0
CoreLeads h u v w = HasEntry h.entries u v w × IsCore h.order u × IsCore h.order v

-- a road node of the core whose mode has this letter
abbrev pub IsCoreIn : NetworkLists → HierarchyLists → ℕ → ℕ → Type 0
IsCoreIn n h letter v = IsCore h.order v × (letter_at n.roads v ≡ Some letter)

-- entries along the core lead from u to v and weigh so much together
pub record HasCoreHops (h : HierarchyLists) (u v weight : ℕ) : Type 0 where
  pub hops : List Hop
  pub walk : AreHops (CoreLeads h) u hops v
  pub weighs : total hops ≡ weight

-- The sheet has all core nodes of a mode, for each walk in it there is one up and down, its legs are walks along the core, and it has a leg
-- that is no longer for each entry along the core.
pub record IsCoreLayer (n : NetworkLists) (h : HierarchyLists) (letter : ℕ) (s : Sheet) : Type 0 where
  pub whole : IsWhole s
  pub core : All (IsCoreIn n h letter) s.slope.nodes.items
  pub all : (v : ℕ) → IsCoreIn n h letter v → Contains s.slope.nodes.items v
  pub legs : (i j w : ℕ) → LeadsBetween s i j w → HasCoreHops h (slice_index s.slope.nodes.items i) (slice_index s.slope.nodes.items j) w
  pub entries : (i j w : ℕ) → i < length s.slope.nodes.items → j < length s.slope.nodes.items → CoreLeads h (slice_index s.slope.nodes.items i) (slice_index s.slope.nodes.items j) w
      → (lighter : ℕ) × (lighter ≤ w) × LeadsBetween s i j lighter

-- nodes of a mode's layer that stand in the order of the core's hierarchy, lowest first
pub record AreLayerNodes (n : NetworkLists) (h : HierarchyLists) (order : List ℕ) (letter : ℕ) (nodes : List ℕ) : Type 0 where
  pub core : All (IsCoreIn n h letter) nodes
  pub contracted : All (IsContracted order) nodes
  pub ascend : (i j : ℕ) → i < j → j < length nodes → height_in order (slice_index nodes i) < height_in order (slice_index nodes j)

-- each entry leads between two of the nodes, or between two others
abbrev pub IsApart : HierarchyLists → List ℕ → Type 0
IsApart h nodes = (u v w : ℕ) → HasEntry h.entries u v w → Contains nodes u ⊎ Contains nodes v → Contains nodes u × Contains nodes v

-- ---- gates

-- a crossing is the node at a place of a sheet
pub record IsGate (nodes crossings : List ℕ) (gate : Gate) : Type 0 where
  pub place : gate.place < length nodes
  pub crossing : gate.crossing < length crossings
  pub is : slice_index nodes gate.place ≡ slice_index crossings gate.crossing

-- these are all of them
pub record AreGates (nodes crossings : List ℕ) (gates : List Gate) : Type 0 where
  pub are : All (IsGate nodes crossings) gates
  pub all : (i j : ℕ) → i < length nodes → j < length crossings → slice_index nodes i ≡ slice_index crossings j → Contains gates (record { crossing = j; place = i })
