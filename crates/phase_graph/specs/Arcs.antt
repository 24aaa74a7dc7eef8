-- The phase graph as a graph of numbered nodes and arcs.
use Rattle.std.specs.Prelude.{◌≡◌, ℕ, ◌+◌, ◌≤◌, Bool, true, false, List, Option, Some}
use Rattle.search_laws.specs.{GraphMeaning, HasArc, WalkStep, IsWalk, word_from}
use Rattle.mode_network.specs.NetworkLists.{NetworkLists}
use Rattle.hierarchy.specs.{HierarchyLists, number_before}
use Rattle.phase_graph.specs.Moves.{PhaseMove, rest, rise, fall, cross, stand, IsPhaseMove, AreMoves}

-- each node has two numbers: before the descent, and in it
abbrev pub phase_node : ℕ → Bool → ℕ
phase_node v false = number_before v
phase_node v true = number_before v + 1

abbrev pub IsResting : PhaseMove → Type 0
IsResting (rest until) = Unit {0}
IsResting (rise hop) = ⊥
IsResting (fall hop) = ⊥
IsResting (cross step) = ⊥
IsResting stand = ⊥

-- the arc at a place of p leads to q with this letter, and arrives at a, which is no later than u, if it is taken at t
pub record IsArcBy (g : GraphMeaning) (p t q u : ℕ) (letter : Option ℕ) (i a : ℕ) : Type 0 where
  pub has : HasArc g p i
  pub to : (g.arc_at p i).to ≡ q
  pub tells : (g.arc_at p i).letter ≡ letter
  pub arrives : g.arrive p i t ≡ Some a
  pub in_time : a ≤ u

-- the arc at a place of v, taken at t, is a move other than a rest that arrives at u
pub record IsArcOfMove (n : NetworkLists) (h : HierarchyLists) (targets : List ℕ) (g : GraphMeaning) (v : ℕ) (down : Bool) (t i u : ℕ) : Type 0 where
  pub move : PhaseMove
  pub to : ℕ
  pub down2 : Bool
  pub moves : IsResting move → ⊥
  pub is : IsPhaseMove n h targets v down t move to down2 u (g.arc_at (phase_node v down) i).letter
  pub leads : (g.arc_at (phase_node v down) i).to ≡ phase_node to down2

-- each move but a rest has an arc that arrives no later, and each arc that arrives is such a move
pub record IsPhaseGraph (n : NetworkLists) (h : HierarchyLists) (targets : List ℕ) (g : GraphMeaning) : Type 0 where
  pub arc_of : (v : ℕ) (down : Bool) (t : ℕ) (move : PhaseMove) (w : ℕ) (down2 : Bool) (u : ℕ) (letter : Option ℕ)
      → IsPhaseMove n h targets v down t move w down2 u letter → (IsResting move → ⊥) → (i : ℕ) × (a : ℕ) × IsArcBy g (phase_node v down) t (phase_node w down2) u letter i a
  pub move_of : (v : ℕ) (down : Bool) (t i u : ℕ) → HasArc g (phase_node v down) i → g.arrive (phase_node v down) i t ≡ Some u → IsArcOfMove n h targets g v down t i u

-- waits and arcs lead from p at t to q at u, and their word is this
pub record HasWalk (g : GraphMeaning) (p t q u : ℕ) (word : List ℕ) : Type 0 where
  pub steps : List WalkStep
  pub walk : IsWalk g p t steps q u
  pub word_is : word_from g p steps ≡ word

-- moves lead from v at t to the node of this number at u, and their letters are this word
pub record HasMoves (n : NetworkLists) (h : HierarchyLists) (targets : List ℕ) (v : ℕ) (down : Bool) (t q u : ℕ) (word : List ℕ) : Type 0 where
  pub moves : List PhaseMove
  pub to : ℕ
  pub end : Bool
  pub walk : AreMoves n h targets v down t moves to end u word
  pub is : q ≡ phase_node to end

-- such a graph has all walks of moves, and no others
abbrev pub PhaseGraphsHaveMoves : Type 0
PhaseGraphsHaveMoves = (n : NetworkLists) (h : HierarchyLists) (targets : List ℕ) (g : GraphMeaning) → IsPhaseGraph n h targets g
    → (moves : List PhaseMove) (v : ℕ) (down : Bool) (t w : ℕ) (end : Bool) (u : ℕ) (word : List ℕ) → AreMoves n h targets v down t moves w end u word
    → HasWalk g (phase_node v down) t (phase_node w end) u word

abbrev pub PhaseGraphsHaveNoOthers : Type 0
PhaseGraphsHaveNoOthers = (n : NetworkLists) (h : HierarchyLists) (targets : List ℕ) (g : GraphMeaning) → IsPhaseGraph n h targets g
    → (steps : List WalkStep) (v : ℕ) (down : Bool) (t q u : ℕ) → IsWalk g (phase_node v down) t steps q u
    → HasMoves n h targets v down t q u (word_from g (phase_node v down) steps)
