use Rattle.rounds.specs.inside.{asked_of, AddsLabels}
use Rattle.rounds.proofs.ListLemmas.{IsWalkBelow}
use Rattle.rounds.proofs.asked.Asked.list_walks.Given as goal

-- the labels of the first so many rows are there
abbrev pub invariant-loop-row : goal.invariant-loop-row
invariant-loop-row g l = AddsLabels (IsWalkBelow (asked_of l.self) l.turns l.walks l.row) l.fn.labels.items l.labels.items
