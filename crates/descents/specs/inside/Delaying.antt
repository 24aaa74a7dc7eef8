-- Delays after a departure, as labels have them.
use Rattle.std.specs.Prelude.{◌≡◌, ℕ, ◌+◌, ◌-◌, ◌*◌, ◌<◌, ◌≤◌, ◌⊎◌, ◌^◌, false, List, [], length, Contains, Option, Some, None, IsTrue, slice_index, slice_index_or, min}
use Rattle.search_laws.specs.{GraphMeaning, LabelsMeaning, HasMove}
use Rattle.mode_network.specs.{NetworkLists.NetworkLists, letter_at, nodes_of}
use Rattle.hierarchy.specs.{HierarchyLists}
use Rattle.product_search.specs.{declared.label.Label.Label}
use Rattle.phase_graph.specs.{phase_node, node_of, IsInUse}
use Rattle.rounds.specs.{AreReachedLabels}
use Rattle.sweeps.specs.{Slope, LeadsDown, HasRoom, time_at, AreWalked, AreClosed}
pub use Rattle.descents.specs.declared.delays.Delays.{Delays}

-- all that walks reach before any descent, as labels: over a phase graph for no targets
pub record AreReachedBefore (n : NetworkLists) (h : HierarchyLists) (l : LabelsMeaning) (starts : List ℕ) (dep : ℕ) (labels : List Label) : Type 0 where
  pub graph : GraphMeaning
  pub in_use : IsInUse n (Some h) [] graph
  pub are : AreReachedLabels graph l starts dep labels

-- the label is at a node of the phase graph, in a state of the automaton
abbrev pub IsKnownLabel : NetworkLists → LabelsMeaning → Label → Type 0
IsKnownLabel n l x = (x.node < 2 * length (nodes_of n)) × (x.state < l.states)

-- an accepted label at v before any descent
abbrev pub EndsAt : LabelsMeaning → ℕ → Label → Type 0
EndsAt l v x = (x.node ≡ phase_node v false) × IsTrue (l.accepts x.state)

-- in a state the letter of v can be read again
abbrev pub ReadsAgain : NetworkLists → LabelsMeaning → ℕ → ℕ → Type 0
ReadsAgain n l v state = (mode : ℕ) × (letter_at n.roads v ≡ Some mode) × HasMove l state mode state

-- one in whose state it can
abbrev pub GoesOnAt : NetworkLists → LabelsMeaning → ℕ → Label → Type 0
GoesOnAt n l v x = EndsAt l v x × ReadsAgain n l v x.state

-- v stands at this place, and its letter can be read again in a state
pub record IsTopOf (n : NetworkLists) (slope : List ℕ) (l : LabelsMeaning) (v state place : ℕ) : Type 0 where
  pub within : place < length slope
  pub is : slice_index slope place ≡ v
  pub again : ReadsAgain n l v state

-- the delay of the first of the labels of which P holds, if there is one
pub record IsFirst (P : Label → Type 0) (dep : ℕ) (labels : List Label) (delay : ℕ) : Type 0 where
  pub none_earlier : (x : Label) → Contains labels x → P x → dep + delay ≤ x.at
  pub is : delay < 2 ^ 32 - 1 → (x : Label) × Contains labels x × P x × (x.at ≡ dep + delay)

-- none is so late as never; at each node the delay of the first label that ends there, and at each place that of the first that goes on
-- there
pub record AreDelays (n : NetworkLists) (slope : List ℕ) (l : LabelsMeaning) (dep : ℕ) (labels : List Label) (d : Delays) : Type 0 where
  pub ends_each : length d.ends.items ≡ length (nodes_of n)
  pub tops_each : length d.tops.items ≡ length slope
  pub small : (x : Label) → Contains labels x → x.at < dep + (2 ^ 32 - 1)
  pub ends : (v : ℕ) → v < length (nodes_of n) → IsFirst (EndsAt l v) dep labels (time_at d.ends.items v)
  pub tops : (i : ℕ) → i < length slope → IsFirst (GoesOnAt n l (slice_index slope i)) dep labels (time_at d.tops.items i)

-- the delay at a place is the least of what it was and this one; no other has changed
pub record IsMin (place delay : ℕ) (before after : List ℕ) : Type 0 where
  pub as_many : length after ≡ length before
  pub here : time_at after place ≡ min (time_at before place) delay
  pub elsewhere : (j : ℕ) → (j ≡ place → ⊥) → time_at after j ≡ time_at before j

-- delays that are swept down a slope, and fit
pub record AreSwept (slope : Slope) (before after : List ℕ) : Type 0 where
  pub walked : AreWalked (LeadsDown slope) before after
  pub closed : AreClosed (LeadsDown slope) (2 ^ 32) after
  pub room : HasRoom slope after

-- a time so long after the departure; or None where that is never
abbrev pub IsTimeAfter : ℕ → ℕ → Option ℕ → Type 0
IsTimeAfter dep delay None = delay ≡ 2 ^ 32 - 1
IsTimeAfter dep delay (Some t) = (delay < 2 ^ 32 - 1) × (t ≡ dep + delay)

-- the earlier time of that at v and that at its place, if it has one
abbrev pub IsDelayAt : List ℕ → List ℕ → List ℕ → ℕ → ℕ → Option ℕ → Type 0
IsDelayAt slope before after v dep arrival =
    (IsTimeAfter dep (time_at before v) arrival × (Contains slope v → ⊥))
    ⊎ ((place : ℕ) × (place < length slope) × (slice_index slope place ≡ v) × IsTimeAfter dep (min (time_at before v) (time_at after place)) arrival)

-- so it is for the nodes of these numbers, in order
pub record AreTimesAfter (slope before after : List ℕ) (dep : ℕ) (ends : List ℕ) (times : List (Option ℕ)) : Type 0 where
  pub one_each : length times ≡ length ends
  pub are : (k : ℕ) → k < length ends → IsDelayAt slope before after (node_of (slice_index ends k)) dep (slice_index_or times k None)
