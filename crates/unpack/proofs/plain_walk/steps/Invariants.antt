use Rattle.plan_base.proofs.Common.{◌≡◌, ◌++◌, drop}
use Rattle.unpack.specs.{HaveArcs, steps_of}
use Rattle.unpack.proofs.plain_walk.steps.Given as goal

abbrev pub invariant-loop-hop : goal.invariant-loop-hop
invariant-loop-hop l = record {
  told : l.steps.items ++ steps_of l.plain.network.now l.plain.timetable.now l.node l.time (drop l.hop-index l.hops) ≡ steps_of l.plain.network.now l.plain.timetable.now l.start l.at l.hops;
  rest : HaveArcs l.plain.network.now l.plain.timetable.now l.node (drop l.hop-index l.hops);
}
