-- Walks through a graph by waits and arcs, their words, and the least arrival of the accepted ones.
use Rattle.std.specs.Prelude.{◌≡◌, ℕ, ◌≤◌, List, [], ◌∷◌, ◌++◌, Some, Contains, option_to_list}
use Rattle.search_laws.specs.{GraphLaws.GraphMeaning, GraphLaws.HasArc, LabelLaws.LabelsMeaning, LabelLaws.Accepts}

-- a wait until a time, or the arc at a place of the node that was reached
pub data WalkStep : Type 0 where
  wait : ℕ → WalkStep
  arc : ℕ → WalkStep

-- the steps lead from the node v at t to the node v2 at t2
abbrev pub IsWalk : GraphMeaning → ℕ → ℕ → List WalkStep → ℕ → ℕ → Type 0
IsWalk g v t [] v2 t2 = (v2 ≡ v) × (t2 ≡ t)
IsWalk g v t (wait w ∷ steps) v2 t2 = (t ≤ w) × IsWalk g v w steps v2 t2
IsWalk g v t (arc i ∷ steps) v2 t2 =
    (u : ℕ) × HasArc g v i × (g.arrive v i t ≡ Some u) × IsWalk g (g.arc_at v i).to u steps v2 t2

-- the letters of the arcs of the walk from v, in order
abbrev pub word_from : GraphMeaning → ℕ → List WalkStep → List ℕ
word_from g v [] = []
word_from g v (wait w ∷ steps) = word_from g v steps
word_from g v (arc i ∷ steps) = option_to_list (g.arc_at v i).letter ++ word_from g (g.arc_at v i).to steps

-- an accepted walk from a start at dep reaches a target at t2
pub record ArrivesAt (g : GraphMeaning) (l : LabelsMeaning) (starts targets : List ℕ) (dep t2 : ℕ) : Type 0 where
  pub start : ℕ
  pub end : ℕ
  pub steps : List WalkStep
  pub starts_there : Contains starts start
  pub ends_there : Contains targets end
  pub walk : IsWalk g start dep steps end t2
  pub word : Accepts l (word_from g start steps)

pub record IsLeast (g : GraphMeaning) (l : LabelsMeaning) (starts targets : List ℕ) (dep t2 : ℕ) : Type 0 where
  pub reached : ArrivesAt g l starts targets dep t2
  pub least : (t : ℕ) → ArrivesAt g l starts targets dep t → t2 ≤ t
