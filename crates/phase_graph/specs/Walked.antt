-- The phase graph keeps the journeys to its targets: as walks of a graph.
use Rattle.std.specs.Prelude.{◌≡◌, ℕ, ◌≤◌, Bool, true, false, List, Contains}
use Rattle.search_laws.specs.{collapse, GraphMeaning, WalkStep, IsWalk, word_from}
use Rattle.mode_network.specs.{NetworkLists.NetworkLists, Step, AreSteps}
use Rattle.hierarchy.specs.{HierarchyLists, IsContracted}
use Rattle.phase_graph.specs.{Arcs.phase_node, Arcs.HasWalk, Laws.HasJourney}

-- a walk leads from v before the descent to w by the limit, where it ends before the descent or at a contracted node, and its word collapses to the same
pub record HasWalkBy (h : HierarchyLists) (g : GraphMeaning) (v t w limit : ℕ) (word : List ℕ) : Type 0 where
  pub down : Bool
  pub at : ℕ
  pub letters : List ℕ
  pub walk : HasWalk g (phase_node v false) t (phase_node w down) at letters
  pub at_target : down ≡ true → IsContracted h.order w
  pub no_later : at ≤ limit
  pub same_word : collapse letters ≡ collapse word

-- for each journey to a target there is a walk
abbrev pub JourneysHaveWalks : NetworkLists → HierarchyLists → List ℕ → GraphMeaning → Type 0
JourneysHaveWalks n h targets g =
    (steps : List Step) (v t w u : ℕ) (letters : List ℕ) → AreSteps n v t steps w u letters → Contains targets w → HasWalkBy h g v t w u letters

-- a walk from v ends at a node of w, and a journey leads from v at t to w at the same time
pub record HasJourneyTo (n : NetworkLists) (v t q u : ℕ) (word : List ℕ) : Type 0 where
  pub to : ℕ
  pub down : Bool
  pub is : q ≡ phase_node to down
  pub journey : HasJourney n v t to u word

-- for each walk there is a journey
abbrev pub WalksHaveJourneys : NetworkLists → GraphMeaning → Type 0
WalksHaveJourneys n g =
    (steps : List WalkStep) (v : ℕ) (down : Bool) (t q u : ℕ) → IsWalk g (phase_node v down) t steps q u → HasJourneyTo n v t q u (word_from g (phase_node v down) steps)
