use Rattle.rounds.specs.inside.{asked_of, AddsLabels}
use Rattle.rounds.proofs.ListLemmas.{IsCrossingBelow}
use Rattle.rounds.proofs.asked.Asked.list_crossings.Given as goal

-- the labels of the first so many states are there
abbrev pub invariant-loop-state : goal.invariant-loop-state
invariant-loop-state g l = AddsLabels (IsCrossingBelow (asked_of l.self) l.rows l.state) l.fn.labels.items l.labels.items
