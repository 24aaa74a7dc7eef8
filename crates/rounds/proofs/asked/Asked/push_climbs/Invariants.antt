use Rattle.plan_base.proofs.Common.{take}
use Rattle.phase_graph.specs.{node_of}
use Rattle.rounds.specs.inside.{asked_of, AddsLabels, IsClimbLabel, IsOfAny}
use Rattle.rounds.proofs.asked.Asked.push_climbs.Given as goal

abbrev pub invariant-loop-turn : goal.invariant-loop-turn
invariant-loop-turn g l = AddsLabels (IsOfAny (IsClimbLabel (asked_of {l = g.L.Labels} l.self) (node_of l.start) l.climbs) (take l.turn-index l.turns)) l.initial.labels.items l.labels.items
