use Rattle.rounds.proofs.LayerLemmas.{AreLayersBelow}
use Rattle.rounds.proofs.rounds.core_layers.Given as goal

abbrev pub invariant-loop-letter : goal.invariant-loop-letter
invariant-loop-letter l = record { below : AreLayersBelow l.cores.network.now l.cores.hierarchy.now l.crossings l.letter l.layers.items }
