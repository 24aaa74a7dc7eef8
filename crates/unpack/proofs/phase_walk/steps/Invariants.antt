use Rattle.plan_base.proofs.Common.{◌≡◌, []}
use Rattle.phase_graph.specs.{marks_in, phase_meaning}
use Rattle.unpack.proofs.PhaseLemmas.{IsUnderWay}
use Rattle.unpack.proofs.phase_walk.steps.Given as goal

abbrev pub invariant-loop-hop : goal.invariant-loop-hop
invariant-loop-hop l = record {
  way : IsUnderWay l.phases.plain.network.now (phase_meaning l.phases.plain.network.now l.phases.plain.timetable.now l.phases.hierarchy.now (marks_in l.phases.falls.first.items))
      l.start l.at l.hops l.hop-index l.p l.time l.steps.items;
  none : l.stack.items ≡ [];
}
