-- When rounds have come to an end.
use Rattle.std.specs.Prelude.{◌≡◌, ℕ, ◌+◌, ◌<◌, ◌≤◌, ◌⊎◌, false, List, length, All, Contains, Vec, slice_get, Some}
use Rattle.std.specs.declared.alloc.Global.{Global}
use Rattle.product_search.specs.{Label}
use Rattle.phase_graph.specs.{phase_node}
use Rattle.rounds.specs.Layers.{CoreLayer}
use Rattle.rounds.specs.inside.{Rows.row_of, Rows.cell, Rows.never, Asking.AskedMeaning, Asking.IsLayerOf, Walks.Turn, Walks.node_at, Walks.AreWalksReached, Walks.AreCrossingsReached, Walks.AreWalkedBelow, Visits.crossing_node, Visits.IsVisited, Riding.AreRidden}

-- labels at crossings have their delays in the rows of these
abbrev pub HaveCrossed : AskedMeaning → List Label → List (Vec ℕ Global) → Type 0
HaveCrossed a labels rows =
    (x : Label) (j : ℕ) → Contains labels x → j < length a.rounds.crossings.items → x.node ≡ crossing_node a j → (cell rows x.state j < never) × (a.dep + cell rows x.state j ≤ x.at)

-- labels at nodes of layers have theirs in the rows of the turns that begin in their states
abbrev pub HaveWalked : AskedMeaning → List Label → List Turn → List (Vec ℕ Global) → Type 0
HaveWalked a labels turns walks =
    (x : Label) (k i : ℕ) (turn : Turn) (layer : CoreLayer) → Contains labels x → slice_get turns k ≡ Some turn → IsLayerOf a turn.letter layer → Contains turn.sources.items x.state
    → i < length layer.sheet.slope.nodes.items → x.node ≡ phase_node (node_at layer i) false → (cell walks k i < never) × (a.dep + cell walks k i ≤ x.at)

-- no delay is so long that one more along the core would not fit
abbrev pub HaveRoom : ℕ → List (Vec ℕ Global) → Type 0
HaveRoom longest walks = (k i : ℕ) → k < length walks → i < length (row_of walks k) → cell walks k i < never → cell walks k i + longest < never

-- nothing is reached sooner any more, and all delays fit
pub record AreSettled (a : AskedMeaning) (firsts : List Label) (turns : List Turn) (walks rows : List (Vec ℕ Global)) : Type 0 where
  pub walks_reached : AreWalksReached a turns walks
  pub crossings_reached : AreCrossingsReached a rows
  pub crossed : HaveCrossed a firsts rows
  pub walked : HaveWalked a firsts turns walks
  pub closed : AreWalkedBelow a turns walks rows (length turns)
  pub visited : (q j : ℕ) → q < a.labels.states → j < length a.rounds.crossings.items → cell rows q j < never → IsVisited a rows q j (cell rows q j)
  pub ridden : AreRidden a rows rows
  pub room : HaveRoom a.rounds.longest walks

-- ---- the labels of what was reached

-- the label of a place of a walk
pub record IsWalkLabel (a : AskedMeaning) (turns : List Turn) (walks : List (Vec ℕ Global)) (x : Label) : Type 0 where
  pub turn : Turn
  pub layer : CoreLayer
  pub row : ℕ
  pub place : ℕ
  pub is_turn : slice_get turns row ≡ Some turn
  pub is_layer : IsLayerOf a turn.letter layer
  pub within : place < length (row_of walks row)
  pub some : cell walks row place < never
  pub is : x ≡ record { node = phase_node (node_at layer place) false; state = turn.state; at = a.dep + cell walks row place }

-- the label of a crossing in a state
pub record IsCrossingLabel (a : AskedMeaning) (rows : List (Vec ℕ Global)) (x : Label) : Type 0 where
  pub crossing : ℕ
  pub is_state : x.state < a.labels.states
  pub within : crossing < length a.rounds.crossings.items
  pub some : cell rows x.state crossing < never
  pub is : x ≡ record { node = crossing_node a crossing; state = x.state; at = a.dep + cell rows x.state crossing }

-- the first labels, and those of all places and crossings that were reached
pub record AreLabelsOf (a : AskedMeaning) (firsts : List Label) (turns : List Turn) (walks rows : List (Vec ℕ Global)) (labels : List Label) : Type 0 where
  pub are : All (λ x. Contains firsts x ⊎ IsWalkLabel a turns walks x ⊎ IsCrossingLabel a rows x) labels
  pub firsts_too : All (Contains labels) firsts
  pub walks_too : (x : Label) → IsWalkLabel a turns walks x → Contains labels x
  pub crossings_too : (x : Label) → IsCrossingLabel a rows x → Contains labels x
