use Rattle.certificate.specs.{AreAdded, HasMoveFrom}
use Rattle.certificate.proofs.state_sets.mark_states.Given as goal

abbrev pub invariant-loop-state : goal.invariant-loop-state
invariant-loop-state g l = AreAdded l.initial.set l.set (HasMoveFrom (g.L.Labels.automaton l.labels) l.state l.reached l.letter)
