use Rattle.rounds.proofs.TurnLemmas.{AreSourcesBelow}
use Rattle.rounds.proofs.asked.Asked.sources.Given as goal

abbrev pub invariant-loop-source : goal.invariant-loop-source
invariant-loop-source g l = record { are : AreSourcesBelow (g.L.Labels.automaton l.self.machine.now.labels) l.letter l.state l.source l.sources.items }
