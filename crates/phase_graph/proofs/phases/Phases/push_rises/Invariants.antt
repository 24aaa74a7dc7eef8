use Rattle.plan_base.proofs.Common.{◌≡◌, ◌≤◌, ◌++◌}
use Rattle.search_laws.specs.{ways_from}
use Rattle.phase_graph.specs.{marks_in, phase_meaning}
use Rattle.phase_graph.proofs.phases.Phases.push_rises.Given as goal

abbrev pub invariant-loop-i : goal.invariant-loop-i
invariant-loop-i l = record {
  far : l.ways.items ≡ l.initial.ways.items ++ ways_from (phase_meaning l.self.plain.network.now l.self.plain.timetable.now l.self.hierarchy.now (marks_in l.self.falls.first.items)) l.p l.visit.at l.visit.letters 0 l.i;
  within : l.i ≤ l.ups;
}
