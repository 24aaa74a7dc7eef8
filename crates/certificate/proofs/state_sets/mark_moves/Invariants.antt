use Rattle.certificate.specs.{AreAdded, HasMoveBelow}
use Rattle.certificate.proofs.state_sets.mark_moves.Given as goal

abbrev pub invariant-loop-i : goal.invariant-loop-i
invariant-loop-i g l = AreAdded l.initial.set l.set (HasMoveBelow (g.L.Labels.automaton l.labels) l.i l.state l.letter)
