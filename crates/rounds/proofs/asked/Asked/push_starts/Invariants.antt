use Rattle.rounds.specs.inside.{asked_of, AddsLabels}
use Rattle.rounds.proofs.FirstLemmas.{IsStartBelow}
use Rattle.rounds.proofs.asked.Asked.push_starts.Given as goal

abbrev pub invariant-loop-state : goal.invariant-loop-state
invariant-loop-state g l = AddsLabels (IsStartBelow (asked_of {l = g.L.Labels} l.self) l.start l.state) l.initial.labels.items l.labels.items
