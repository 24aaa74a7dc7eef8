use Rattle.rounds.proofs.LayerLemmas.{AreNodesBelow}
use Rattle.rounds.proofs.core_layer.Cores.layer_nodes.Given as goal

abbrev pub invariant-loop-v : goal.invariant-loop-v
invariant-loop-v l = record { below : AreNodesBelow l.self.network.now l.self.hierarchy.now l.self.core.now.order l.letter l.v-index l.nodes.items }
