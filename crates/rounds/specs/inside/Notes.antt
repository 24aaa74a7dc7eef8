-- Labels as delays of crossings and of walks.
use Rattle.std.specs.Prelude.{◌≡◌, ℕ, ◌+◌, ◌<◌, ◌≤◌, false, List, length, Contains, Vec, slice_index}
use Rattle.std.specs.declared.alloc.Global.{Global}
use Rattle.product_search.specs.{Label}
use Rattle.phase_graph.specs.{phase_node, node_of}
use Rattle.sweeps.specs.{time_at}
use Rattle.rounds.specs.inside.{Rows.cell, Rows.never, Walks.Turn}

-- one of these labels is at place i of nodes in state q, so long after the departure
pub record IsOfLabel (dep : ℕ) (nodes : List ℕ) (labels : List Label) (q i t : ℕ) : Type 0 where
  pub label : Label
  pub of : Contains labels label
  pub state : label.state ≡ q
  pub place : i < length nodes
  pub is : slice_index nodes i ≡ node_of label.node
  pub at : label.at ≡ dep + t

-- one of them is, in one of the sources
abbrev pub IsOfSource : ℕ → List ℕ → List Label → Turn → ℕ → ℕ → Type 0
IsOfSource dep nodes labels turn i t = (q : ℕ) × Contains turn.sources.items q × IsOfLabel dep nodes labels q i t

-- where a label is at one of these nodes, its delay is in the rows of these, in its state
abbrev pub IsNotedIn : ℕ → List ℕ → List (Vec ℕ Global) → Label → Type 0
IsNotedIn dep nodes rows x =
    (i : ℕ) → i < length nodes → x.node ≡ phase_node (slice_index nodes i) false → (cell rows x.state i < never) × (dep + cell rows x.state i ≤ x.at)

-- where one in one of the sources is, it is in the row
abbrev pub IsNotedAt : ℕ → List ℕ → Turn → List ℕ → Label → Type 0
IsNotedAt dep nodes turn row x =
    (i : ℕ) → Contains turn.sources.items x.state → i < length nodes → x.node ≡ phase_node (slice_index nodes i) false → (time_at row i < never) × (dep + time_at row i ≤ x.at)
