-- Walks all over a layer in a state in which its letter can be read again.
use Rattle.std.specs.Prelude.{◌≡◌, ℕ, ◌+◌, ◌<◌, ◌≤◌, false, List, length, All, Contains, Vec, slice_index, slice_get, Some}
use Rattle.std.specs.declared.alloc.Global.{Global}
use Rattle.search_laws.specs.{LabelsMeaning, HasMove}
use Rattle.phase_graph.specs.{phase_node}
use Rattle.sweeps.specs.{LeadsBetween, AreClosed, time_at}
use Rattle.rounds.specs.Layers.{CoreLayer, Gate}
use Rattle.rounds.specs.inside.{Rows.row_of, Rows.cell, Rows.never, Rows.HaveShape, Asking.AskedMeaning, Asking.Reaches, Asking.IsLayerOf}
pub use Rattle.rounds.specs.declared.turning.Turn.{Turn}

-- ---- turns

-- moves by the letter, which is a road letter, lead from the sources to the state, and from there to itself
pub record IsTurn (l : LabelsMeaning) (turn : Turn) : Type 0 where
  pub letter : turn.letter < 3
  pub state : turn.state < l.states
  pub stays : HasMove l turn.state turn.letter turn.state
  pub sources : All (λ q. (q < l.states) × HasMove l q turn.letter turn.state) turn.sources.items

-- these are the turns of all moves by road letters
pub record AreTurns (l : LabelsMeaning) (turns : List Turn) : Type 0 where
  pub are : All (IsTurn l) turns
  pub all : (q c r : ℕ) → q < l.states → c < 3 → HasMove l q c r → (turn : Turn) × Contains turns turn × (turn.letter ≡ c) × (turn.state ≡ r) × Contains turn.sources.items q

-- ---- rows of walks: one for each turn, with a delay for each place of the sheet of its layer

abbrev pub node_at : CoreLayer → ℕ → ℕ
node_at layer i = slice_index layer.sheet.slope.nodes.items i

-- the delays of a turn are those of places of its layer, and are reached in its state
pub record IsWalkReached (a : AskedMeaning) (turn : Turn) (layer : CoreLayer) (row : List ℕ) : Type 0 where
  pub as_many : length row ≡ length layer.sheet.slope.nodes.items
  pub reached : (i : ℕ) → i < length row → time_at row i < never → Reaches a (phase_node (node_at layer i) false) turn.state (a.dep + time_at row i)

abbrev pub AreWalksReached : AskedMeaning → List Turn → List (Vec ℕ Global) → Type 0
AreWalksReached a turns walks =
    (length walks ≡ length turns) × ((k : ℕ) (turn : Turn) (layer : CoreLayer) → slice_get turns k ≡ Some turn → IsLayerOf a turn.letter layer → IsWalkReached a turn layer (row_of walks k))

-- what a leg leads to is as early as that makes it
abbrev pub IsWalkClosed : CoreLayer → List ℕ → Type 0
IsWalkClosed layer row = AreClosed (LeadsBetween layer.sheet) never row

-- ---- rows of crossings: one for each state, with a delay for each crossing

pub record AreCrossingsReached (a : AskedMeaning) (rows : List (Vec ℕ Global)) : Type 0 where
  pub shape : HaveShape a.labels.states (length a.rounds.crossings.items) rows
  pub reached : (q j : ℕ) → q < a.labels.states → j < length a.rounds.crossings.items → cell rows q j < never
      → Reaches a (phase_node (slice_index a.rounds.crossings.items j) false) q (a.dep + cell rows q j)

-- at each gate the walk is no later than in any of the sources
abbrev pub IsFed : Turn → CoreLayer → List ℕ → List (Vec ℕ Global) → Type 0
IsFed turn layer row rows = (q : ℕ) (gate : Gate) → Contains turn.sources.items q → Contains layer.gates.items gate → time_at row gate.place ≤ cell rows q gate.crossing

-- and the crossing no later than the walk
abbrev pub IsReturned : Turn → CoreLayer → List ℕ → List (Vec ℕ Global) → Type 0
IsReturned turn layer row rows = (gate : Gate) → Contains layer.gates.items gate → cell rows turn.state gate.crossing ≤ time_at row gate.place

-- a walk is closed, and so it is between it and the crossings
pub record IsWalked (turn : Turn) (layer : CoreLayer) (row : List ℕ) (rows : List (Vec ℕ Global)) : Type 0 where
  pub closed : IsWalkClosed layer row
  pub fed : IsFed turn layer row rows
  pub returned : IsReturned turn layer row rows

-- so are the first so many of them
abbrev pub AreWalkedBelow : AskedMeaning → List Turn → List (Vec ℕ Global) → List (Vec ℕ Global) → ℕ → Type 0
AreWalkedBelow a turns walks rows count =
    (k : ℕ) (turn : Turn) (layer : CoreLayer) → k < count → slice_get turns k ≡ Some turn → IsLayerOf a turn.letter layer → IsWalked turn layer (row_of walks k) rows

-- each row of walks is closed
abbrev pub AreWalksClosed : AskedMeaning → List Turn → List (Vec ℕ Global) → Type 0
AreWalksClosed a turns walks =
    (k : ℕ) (turn : Turn) (layer : CoreLayer) → slice_get turns k ≡ Some turn → IsLayerOf a turn.letter layer → IsWalkClosed layer (row_of walks k)

-- the delays of a turn are reached in its state, and closed
pub record IsWalkOf (a : AskedMeaning) (turn : Turn) (row : List ℕ) : Type 0 where
  pub reached : (layer : CoreLayer) → IsLayerOf a turn.letter layer → IsWalkReached a turn layer row
  pub closed : (layer : CoreLayer) → IsLayerOf a turn.letter layer → IsWalkClosed layer row

-- ---- steps between walks and crossings

-- a gate whose place this is, and the delay of its crossing
abbrev pub IsTakenIn : List Gate → List ℕ → ℕ → ℕ → Type 0
IsTakenIn gates from i t = (gate : Gate) × Contains gates gate × (i ≡ gate.place) × (t ≡ time_at from gate.crossing)

-- so it is in one of the sources
abbrev pub IsFedBy : Turn → List Gate → List (Vec ℕ Global) → ℕ → ℕ → Type 0
IsFedBy turn gates rows i t = (q : ℕ) × Contains turn.sources.items q × IsTakenIn gates (row_of rows q) i t

-- a gate whose crossing this is, and the delay at its place
abbrev pub IsGivenBack : ℕ → List Gate → List ℕ → ℕ → ℕ → ℕ → Type 0
IsGivenBack state gates row q j t = (gate : Gate) × Contains gates gate × (q ≡ state) × (j ≡ gate.crossing) × (t ≡ time_at row gate.place)
