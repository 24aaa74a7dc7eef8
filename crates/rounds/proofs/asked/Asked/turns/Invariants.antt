use Rattle.rounds.proofs.TurnLemmas.{AreTurnsBelow}
use Rattle.rounds.proofs.asked.Asked.turns.Given as goal

abbrev pub invariant-loop-state : goal.invariant-loop-state
invariant-loop-state g l = record { are : AreTurnsBelow (g.L.Labels.automaton l.self.machine.now.labels) l.state 0 l.turns.items }

abbrev pub invariant-loop-letter : goal.invariant-loop-letter
invariant-loop-letter g l = record { are : AreTurnsBelow (g.L.Labels.automaton l.self.machine.now.labels) l.state l.letter l.turns.items }
