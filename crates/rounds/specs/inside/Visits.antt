-- Links from crossings.
use Rattle.std.specs.Prelude.{◌≡◌, ℕ, ◌+◌, ◌<◌, ◌≤◌, Bool, false, List, length, Option, Some, IfSome, Vec, slice_index}
use Rattle.std.specs.declared.alloc.Global.{Global}
use Rattle.search_laws.specs.{Way, Follows}
use Rattle.phase_graph.specs.{phase_node, meaning_in_use}
use Rattle.phase_graph.specs.InUseGraph.{steady_in_use}
use Rattle.rounds.specs.inside.{Rows.cell, Rows.never, Rows.HaveShape, Rows.AreLowered, Asking.AskedMeaning, Asking.Reaches, Walks.AreCrossingsReached}

abbrev pub crossing_node : AskedMeaning → ℕ → ℕ
crossing_node a j = phase_node (slice_index a.rounds.crossings.items j) false

-- this number is a crossing's, which is reached in the state by then
abbrev pub IsCrossedBy : AskedMeaning → List (Vec ℕ Global) → ℕ → ℕ → ℕ → Type 0
IsCrossedBy a rows p q t =
    (j : ℕ) × (j < length a.rounds.crossings.items) × (p ≡ crossing_node a j) × (cell rows q j < never) × (a.dep + cell rows q j ≤ t)

-- a road letter, or none: it is no ride's
abbrev pub IsRoadOrNone : Option ℕ → Type 0
IsRoadOrNone letter = IfSome letter (λ c. c < 3)

-- what a crossing is left by but its entries and rides, so long after the departure, leads to a crossing that is reached by then
abbrev pub IsVisited : AskedMeaning → List (Vec ℕ Global) → ℕ → ℕ → ℕ → Type 0
IsVisited a rows q j delay =
    (i u r : ℕ) → steady_in_use a.rounds.graph (crossing_node a j) ≤ i → i < (meaning_in_use a.rounds.graph).arcs (crossing_node a j)
    → (meaning_in_use a.rounds.graph).arrive (crossing_node a j) i (a.dep + delay) ≡ Some u
    → IsRoadOrNone ((meaning_in_use a.rounds.graph).arc_at (crossing_node a j) i).letter → Follows a.labels q ((meaning_in_use a.rounds.graph).arc_at (crossing_node a j) i).letter r
    → IsCrossedBy a rows ((meaning_in_use a.rounds.graph).arc_at (crossing_node a j) i).to r u

-- each crossing that has a delay in rows of visits was visited then
pub record AreVisited (a : AskedMeaning) (rows visits : List (Vec ℕ Global)) : Type 0 where
  pub no_later : (q j : ℕ) → q < a.labels.states → j < length a.rounds.crossings.items → cell rows q j ≤ cell visits q j
  pub visited : (q j : ℕ) → q < a.labels.states → j < length a.rounds.crossings.items → cell visits q j < never → IsVisited a rows q j (cell visits q j)

-- ---- single ways

-- what the way leads to from the state is reached
abbrev pub WayReaches : AskedMeaning → ℕ → Way → Type 0
WayReaches a q way = (r : ℕ) → Follows a.labels q way.arc.letter r → Reaches a way.arc.to r way.at

-- and it is a crossing that is reached by then
abbrev pub WayIsCrossed : AskedMeaning → List (Vec ℕ Global) → ℕ → Way → Type 0
WayIsCrossed a rows q way = (r : ℕ) → Follows a.labels q way.arc.letter r → IsCrossedBy a rows way.arc.to r way.at

-- delays at crossings are lowered to what is reached; if nothing has changed they are as before
pub record AreCrossedOn (a : AskedMeaning) (old new : List (Vec ℕ Global)) (changed : Bool) : Type 0 where
  pub reached : AreCrossingsReached a new
  pub lowered : AreLowered (λ k i t. Unit {0}) old new
  pub same : changed ≡ false → new ≡ old

-- ---- visits so far

-- delays at crossings are reached, and those in rows of visits are of crossings that were visited then
pub record AreVisiting (a : AskedMeaning) (rows visits : List (Vec ℕ Global)) : Type 0 where
  pub reached : AreCrossingsReached a rows
  pub shape : HaveShape a.labels.states (length a.rounds.crossings.items) visits
  pub visited : AreVisited a rows visits
