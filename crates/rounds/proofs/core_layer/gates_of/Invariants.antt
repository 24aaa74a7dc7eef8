use Rattle.rounds.proofs.LayerLemmas.{AreGatesBelow}
use Rattle.rounds.proofs.core_layer.gates_of.Given as goal

abbrev pub invariant-loop-crossing : goal.invariant-loop-crossing
invariant-loop-crossing l = record { below : AreGatesBelow l.sheet.slope.nodes.items l.crossings l.crossing l.gates.items }
