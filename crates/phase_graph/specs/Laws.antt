-- The phase graph keeps every constrained distance, in both directions.
use Rattle.std.specs.Prelude.{◌≡◌, ℕ, ◌≤◌, Bool, true, false, List, Contains}
use Rattle.search_laws.specs.{collapse}
use Rattle.mode_network.specs.{NetworkLists.NetworkLists, IsNetwork, Step, AreSteps}
use Rattle.hierarchy.specs.{HierarchyLists, IsContracted, IsSound}
use Rattle.phase_graph.specs.Moves.{PhaseMove, AreMoves}

-- moves lead from v at t to w by the limit, where they end before the descent or at a contracted node, and their word collapses to the same
pub record HasPhaseWalk (n : NetworkLists) (h : HierarchyLists) (targets : List ℕ) (v t w limit : ℕ) (word : List ℕ) : Type 0 where
  pub moves : List PhaseMove
  pub down : Bool
  pub at : ℕ
  pub letters : List ℕ
  pub walk : AreMoves n h targets v false t moves w down at letters
  pub at_target : down ≡ true → IsContracted h.order w
  pub no_later : at ≤ limit
  pub same_word : collapse letters ≡ collapse word

abbrev pub JourneysHavePhaseWalks : Type 0
JourneysHavePhaseWalks = (n : NetworkLists) (h : HierarchyLists) (targets : List ℕ) → IsNetwork n → IsSound n h
    → (steps : List Step) (v t w u : ℕ) (letters : List ℕ) → AreSteps n v t steps w u letters → Contains targets w → HasPhaseWalk n h targets v t w u letters

-- steps lead from v at t to w at u, and their word collapses to the same
pub record HasJourney (n : NetworkLists) (v t w u : ℕ) (word : List ℕ) : Type 0 where
  pub steps : List Step
  pub told : List ℕ
  pub real : AreSteps n v t steps w u told
  pub same_word : collapse told ≡ collapse word

abbrev pub PhaseWalksHaveJourneys : Type 0
PhaseWalksHaveJourneys = (n : NetworkLists) (h : HierarchyLists) (targets : List ℕ) → IsNetwork n → IsSound n h
    → (moves : List PhaseMove) (v : ℕ) (down : Bool) (t w : ℕ) (end : Bool) (u : ℕ) (letters : List ℕ) → AreMoves n h targets v down t moves w end u letters → HasJourney n v t w u letters
