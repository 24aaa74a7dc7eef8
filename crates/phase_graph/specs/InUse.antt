-- The graph that a query is answered over: that of the network, or, where a hierarchy is given, its phase graph for the targets.
use Rattle.std.specs.Prelude.{◌≡◌, ℕ, ◌≤◌, Bool, false, true, List, [], ◌∷◌, map, Option, Some, None, IfSome, Contains, if◌then◌else◌, flat_map}
use Rattle.search_laws.specs.{collapse, GraphMeaning, HasArc, IsLawfulGraph, WalkStep, IsWalk, word_from}
use Rattle.timetable_arcs.specs.{TableLists, IsTable}
use Rattle.mode_network.specs.{Step, IsNetwork, IsTimetableOf, AreSteps, NetworkLists.NetworkLists}
use Rattle.hierarchy.specs.{HierarchyLists, is_contracted, IsHierarchy, IsSound}
use Rattle.plain_graph.specs.{plain_meaning}
use Rattle.phase_graph.specs.{Arcs.phase_node, Arcs.IsArcBy, Marks.AreMarksFor, PhaseArcs.phase_meaning, PhaseArcs.node_of}

-- the graph of the network; how its timetable sorts runs into patterns is left free
pub record IsPlain (n : NetworkLists) (g : GraphMeaning) : Type 0 where
  pub table : TableLists
  pub of : IsTimetableOf n table
  pub keeps : IsTable table
  pub is : g ≡ plain_meaning n table

-- the phase graph of a hierarchy for the targets; that is left free here too
pub record IsOfPhases (n : NetworkLists) (h : HierarchyLists) (targets : List ℕ) (g : GraphMeaning) : Type 0 where
  pub table : TableLists
  pub of : IsTimetableOf n table
  pub keeps : IsTable table
  pub marks : List Bool
  pub are : AreMarksFor h targets marks
  pub is : g ≡ phase_meaning n table h marks

abbrev pub IsInUse : NetworkLists → Option HierarchyLists → List ℕ → GraphMeaning → Type 0
IsInUse n None targets g = IsPlain n g
IsInUse n (Some h) targets g = IsOfPhases n h targets g

-- the numbers of the nodes that a search of it starts at, in the order of the origins
abbrev pub starts_in : Option HierarchyLists → List ℕ → List ℕ
starts_in None origins = origins
starts_in (Some h) origins = map (λ v. phase_node v false) origins

-- the numbers of a target: before the descent, and in it where the target is contracted
abbrev pub target_numbers : HierarchyLists → ℕ → List ℕ
target_numbers h v = if is_contracted h.order v then phase_node v false ∷ phase_node v true ∷ [] else phase_node v false ∷ []

abbrev pub ends_in : Option HierarchyLists → List ℕ → List ℕ
ends_in None targets = targets
ends_in (Some h) targets = flat_map (target_numbers h) targets

-- the node of the network that a number stands for
abbrev pub node_under : Option HierarchyLists → ℕ → ℕ
node_under None p = p
node_under (Some h) p = node_of p

-- the hierarchy, if one is given, is sound
abbrev pub IsSoundIfGiven : NetworkLists → Option HierarchyLists → Type 0
IsSoundIfGiven n o = IfSome o (λ h. IsHierarchy h × IsSound n h)

-- a walk from a start to an end arrives by the limit, and its word collapses to the same
pub record HasWalkInUse (g : GraphMeaning) (starts ends : List ℕ) (t limit : ℕ) (word : List ℕ) : Type 0 where
  pub start : ℕ
  pub end : ℕ
  pub at : ℕ
  pub steps : List WalkStep
  pub starts_there : Contains starts start
  pub ends_there : Contains ends end
  pub walk : IsWalk g start t steps end at
  pub no_later : at ≤ limit
  pub same_word : collapse (word_from g start steps) ≡ collapse word

-- for each journey from an origin to a target there is a walk
abbrev pub JourneysHaveWalksInUse : Type 0
JourneysHaveWalksInUse = (n : NetworkLists) → IsNetwork n → (o : Option HierarchyLists) → IsSoundIfGiven n o → (origins targets : List ℕ) (g : GraphMeaning) → IsInUse n o targets g
    → (steps : List Step) (v t w u : ℕ) (letters : List ℕ) → AreSteps n v t steps w u letters → Contains origins v → Contains targets w
    → HasWalkInUse g (starts_in o origins) (ends_in o targets) t u letters

abbrev pub GraphsInUseAreLawful : Type 0
GraphsInUseAreLawful = (n : NetworkLists) → IsNetwork n → (o : Option HierarchyLists) → IsSoundIfGiven n o → (targets : List ℕ) (g : GraphMeaning) → IsInUse n o targets g → IsLawfulGraph g

-- each arc of the one that arrives has an arc of the other with its ends and its letter that arrives no later
abbrev pub Covers : GraphMeaning → GraphMeaning → Type 0
Covers g h = (p t i u : ℕ) → HasArc g p i → g.arrive p i t ≡ Some u → (j : ℕ) × (a : ℕ) × IsArcBy h p t (g.arc_at p i).to u (g.arc_at p i).letter j a

pub record CoverEachOther (g h : GraphMeaning) : Type 0 where
  pub nodes : g.nodes ≡ h.nodes
  pub forth : Covers g h
  pub back : Covers h g

-- whatever the timetable, it is the same graph
abbrev pub GraphsInUseAreAlike : Type 0
GraphsInUseAreAlike = (n : NetworkLists) → IsNetwork n → (o : Option HierarchyLists) → IsSoundIfGiven n o → (targets : List ℕ) (one other : GraphMeaning)
    → IsInUse n o targets one → IsInUse n o targets other → CoverEachOther one other
