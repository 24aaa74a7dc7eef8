use Rattle.rounds.specs.inside.{AddsLabels, IsRowLabel}
use Rattle.rounds.proofs.listing.push_labels.Given as goal

abbrev pub invariant-loop-place : goal.invariant-loop-place
invariant-loop-place l = AddsLabels (IsRowLabel l.nodes l.delays l.state l.dep l.place) l.fn.labels.items l.labels.items
