use Rattle.plan_base.proofs.Common.{false}
use Rattle.phase_graph.specs.{phase_node}
use Rattle.phase_graph.specs.InUseGraph.{meaning_in_use, steady_in_use}
use Rattle.rounds.specs.Crossings.{IsQuiet}
use Rattle.rounds.proofs.CrossingLemmas.{AreCrossingsBelow}
use Rattle.rounds.proofs.rounds.crossings_of.Given as goal

abbrev pub invariant-loop-v : goal.invariant-loop-v
invariant-loop-v l = record {
  below : AreCrossingsBelow l.hierarchy.order (λ u. IsQuiet l.network (meaning_in_use l.graph) u (steady_in_use l.graph (phase_node u false))) l.v l.crossings.items;
}
