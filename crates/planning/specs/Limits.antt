-- What is right of a query line whose search may have so many labels, and no more.
use Rattle.std.specs.Prelude.{◌≡◌, ℕ, ◌≤◌, ◌⊎◌, List, length, Option, Some, None}
use Rattle.search_laws.specs.{GraphMeaning, LabelsMeaning}
use Rattle.product_search.specs.{Label, HasMoreLabels}
use Rattle.automaton.specs.{written, IsPositionAutomaton, collapsed}
use Rattle.hierarchy.specs.{HierarchyLists}
use Rattle.phase_graph.specs.{IsInUse, starts_in, ends_in}
use Rattle.mode_network.specs.NetworkLists.{NetworkLists}
use Rattle.journey.specs.{QueryFault, IsRefused, AreTheCopies, Asked, Asks, IsToldBlock, stopped_block}
use Rattle.planning.specs.{Plans.AreTheLabels, Settled.IsSettledCount}

-- the search for what is asked has more labels than so many, over each graph in use
pub record SearchHasMore (n : NetworkLists) (h : Option HierarchyLists) (q : Asked) (limit : ℕ) : Type 0 where
  pub automaton : LabelsMeaning
  pub positions : IsPositionAutomaton (written q.form) automaton
  pub origins : List ℕ
  pub targets : List ℕ
  pub origin : AreTheCopies n q.from origins
  pub destination : AreTheCopies n q.to targets
  pub graph : GraphMeaning
  pub in_use : IsInUse n h targets graph
  pub over : (other : GraphMeaning) → IsInUse n h targets other
      → HasMoreLabels other (collapsed automaton) (starts_in h origins) (ends_in h targets) q.depart None limit

-- it has at most so many
abbrev pub SearchHasAtMost : NetworkLists → Option HierarchyLists → Asked → ℕ → Type 0
SearchHasAtMost n h q limit = (labels : List Label) × AreTheLabels n h q labels × (length labels ≤ limit)

-- the line asks something whose search has more labels than the limit
abbrev pub IsStoppedLine : NetworkLists → Option HierarchyLists → ℕ → List ℕ → Type 0
IsStoppedLine n h limit line = (asked : Asked) × Asks n line asked × SearchHasMore n h asked limit

-- the line is refused, or asks something whose search has no more
abbrev pub IsLineWithin : NetworkLists → Option HierarchyLists → ℕ → List ℕ → Type 0
IsLineWithin n h limit line = ((fault : QueryFault) × IsRefused n line fault) ⊎ ((asked : Asked) × Asks n line asked × SearchHasAtMost n h asked limit)

-- what is right of a line whose search may have so many labels: one thing where it has more, and what is right anyway where it has not
abbrev pub IsWithinLabels : NetworkLists → Option HierarchyLists → Option ℕ → List ℕ → (ℕ → Type 0) → Type 0 → Type 0
IsWithinLabels n h None line IsStopped Is = Is
IsWithinLabels n h (Some limit) line IsStopped Is = (IsStoppedLine n h limit line × IsStopped limit) ⊎ (IsLineWithin n h limit line × Is)

-- the right block of a query line
abbrev pub IsBlockWithin : NetworkLists → Option HierarchyLists → Option ℕ → List ℕ → List ℕ → Type 0
IsBlockWithin n h limit line block = IsWithinLabels n h limit line (λ most. block ≡ stopped_block line most) (IsToldBlock n line block)

-- how many labels the search for a line has; one that is stopped counts none
abbrev pub IsSettledWithin : NetworkLists → Option HierarchyLists → Option ℕ → List ℕ → ℕ → Type 0
IsSettledWithin n h limit line count = IsWithinLabels n h limit line (λ most. count ≡ 0) (IsSettledCount n h line count)
