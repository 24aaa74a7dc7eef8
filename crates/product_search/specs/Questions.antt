-- What a search is asked, as meanings, and what is found for it.
use Rattle.std.specs.Prelude.{ℕ, List, Option}
use Rattle.search_laws.specs.{GraphMeaning, LabelsMeaning, declared.graph.Graph.Ghosts as GraphGhosts, declared.labels.Labels.Ghosts as LabelsGhosts}
use Rattle.product_search.specs.{declared.label.Label.Label, declared.label.Walk.Walk, Listed.AreLeastLabels, Listed.HasLeastLabels, Answer.IsArrival, Answer.IsWalkFor, Closed.IsClosed, Limits.HasMoreLabels}
pub use Rattle.product_search.specs.declared.question.Question.{Question}

-- from the starts at dep to the targets, within the bound
pub record QuestionMeaning : Type 0 where
  pub graph : GraphMeaning
  pub labels : LabelsMeaning
  pub starts : List ℕ
  pub targets : List ℕ
  pub dep : ℕ
  pub bound : Option ℕ

abbrev pub question_of : {G L : Type 0} {g : GraphGhosts G} {l : LabelsGhosts L} → Question G L g l → QuestionMeaning
question_of {G} {L} {g} {l} q = record {
  graph = g.meaning q.graph.now;
  labels = l.automaton q.machine.now.labels;
  starts = q.starts.now;
  targets = q.targets.now;
  dep = q.dep;
  bound = q.bound;
}

abbrev pub FindsArrival : QuestionMeaning → Option ℕ → Type 0
FindsArrival q arrival = IsArrival q.graph q.labels q.starts q.targets q.dep q.bound arrival

abbrev pub FindsWalk : QuestionMeaning → Option ℕ → Option Walk → Type 0
FindsWalk q arrival walk = IsWalkFor q.graph q.labels q.starts q.targets q.dep arrival walk

abbrev pub ListsLabels : QuestionMeaning → Option ℕ → List Label → Type 0
ListsLabels q arrival list = AreLeastLabels q.graph q.labels q.starts q.dep q.bound arrival list

abbrev pub CountsLabels : QuestionMeaning → Option ℕ → ℕ → Type 0
CountsLabels q arrival count = HasLeastLabels q.graph q.labels q.starts q.dep q.bound arrival count

abbrev pub ListsClosed : QuestionMeaning → Option ℕ → List Label → Type 0
ListsClosed q arrival list = IsClosed q.graph q.labels q.starts q.targets q.dep arrival list

-- the question has more labels than so many
abbrev pub HasMore : QuestionMeaning → ℕ → Type 0
HasMore q most = HasMoreLabels q.graph q.labels q.starts q.targets q.dep q.bound most
