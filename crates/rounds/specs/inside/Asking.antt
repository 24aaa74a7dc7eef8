-- What is asked of rounds, as meanings.
use Rattle.std.specs.Prelude.{◌≡◌, ℕ, List, Some, slice_get}
use Rattle.search_laws.specs.{LabelsMeaning, declared.labels.Labels.Ghosts as LabelsGhosts}
use Rattle.product_search.specs.{IsReachedAt}
use Rattle.phase_graph.specs.{meaning_in_use}
use Rattle.rounds.specs.{Layers.CoreLayer, declared.rounds.Rounds.Rounds}
pub use Rattle.rounds.specs.declared.asked.Asked.{Asked}

pub record AskedMeaning : Type 0 where
  pub rounds : Rounds
  pub labels : LabelsMeaning
  pub starts : List ℕ
  pub dep : ℕ

abbrev pub asked_of : {L : Type 0} {l : LabelsGhosts L} → Asked L l → AskedMeaning
asked_of {L} {l} a = record {
  rounds = a.rounds.now;
  labels = l.automaton a.machine.now.labels;
  starts = a.starts.now;
  dep = a.dep;
}

-- a walk is at this number of the phase graph, in this state, at this time
abbrev pub Reaches : AskedMeaning → ℕ → ℕ → ℕ → Type 0
Reaches a p q t = IsReachedAt (meaning_in_use a.rounds.graph) a.labels a.starts a.dep p q t

-- the layer of the mode with this letter
abbrev pub IsLayerOf : AskedMeaning → ℕ → CoreLayer → Type 0
IsLayerOf a letter layer = slice_get a.rounds.layers.items letter ≡ Some layer
