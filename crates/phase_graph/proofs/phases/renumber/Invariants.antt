use Rattle.plan_base.proofs.Common.{◌≡◌, ◌≤◌, ◌++◌, length, drop}
use Rattle.phase_graph.specs.{renumbered}
use Rattle.phase_graph.proofs.WayTies.{changed}
use Rattle.phase_graph.proofs.phases.renumber.Given as goal

abbrev pub invariant-loop-k : goal.invariant-loop-k
invariant-loop-k l = record {
  far : l.ways.items ≡ changed (renumbered l.old l.first) l.initial.ways.items l.from l.k ++ drop l.k l.initial.ways.items;
  from : l.from ≤ l.k;
  within : l.k ≤ length l.initial.ways.items;
  same_length : length l.ways.items ≡ length l.initial.ways.items;
}
