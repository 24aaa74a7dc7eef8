use Rattle.certificate.specs.{AreKnown}
use Rattle.certificate.proofs.state_sets.no_steps.Given as goal

abbrev pub invariant-loop-letter : goal.invariant-loop-letter
invariant-loop-letter g l = AreKnown (g.L.Labels.automaton l.labels) l.known.items
