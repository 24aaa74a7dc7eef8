-- Lists of labels that go on.
use Rattle.std.specs.Prelude.{◌≡◌, ℕ, ◌+◌, ◌<◌, ◌⊎◌, false, List, All, Contains, slice_index}
use Rattle.product_search.specs.{Label}
use Rattle.phase_graph.specs.{phase_node}
use Rattle.sweeps.specs.{time_at}
use Rattle.rounds.specs.inside.{Rows.never}

-- a list goes on with all labels of which P holds, and with no others
pub record AddsLabels (P : Label → Type 0) (before after : List Label) : Type 0 where
  pub kept : All (Contains after) before
  pub new : All (λ x. Contains before x ⊎ P x) after
  pub all : (x : Label) → P x → Contains after x

-- P holds of the label for one of these
abbrev pub IsOfAny : {X : Type 0} → (X → Label → Type 0) → List X → Label → Type 0
IsOfAny {X} P xs x = (y : X) × Contains xs y × P y x

-- the label of one of the first so many nodes that has a delay
pub record IsRowLabel (nodes delays : List ℕ) (state dep count : ℕ) (x : Label) : Type 0 where
  pub place : ℕ
  pub within : place < count
  pub some : time_at delays place < never
  pub is : x ≡ record { node = phase_node (slice_index nodes place) false; state = state; at = dep + time_at delays place }
