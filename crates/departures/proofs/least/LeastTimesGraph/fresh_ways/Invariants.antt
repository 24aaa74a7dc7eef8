use Rattle.plan_base.proofs.Common.{◌≡◌, ◌-◌, ◌≤◌, ◌++◌}
use Rattle.search_laws.specs.{ways_from}
use Rattle.plain_graph.specs.{count_from, arcs_at}
use Rattle.departures.specs.{least_meaning}
use Rattle.departures.proofs.least.LeastTimesGraph.fresh_ways.Given as goal

abbrev pub invariant-loop-first : goal.invariant-loop-first
invariant-loop-first l = record {
  from : count_from l.self.plain.network.now.arcs l.visit.node ≤ l.first;
  within : l.first ≤ arcs_at l.self.plain.network.now l.self.plain.timetable.now l.visit.node;
  ways : l.ways.items ≡ l.initial.ways.items ++ ways_from (least_meaning l.self.plain.network.now l.self.plain.timetable.now l.self.runs.items) l.visit.node l.visit.at l.letters
      (count_from l.self.plain.network.now.arcs l.visit.node) (l.first - count_from l.self.plain.network.now.arcs l.visit.node);
}

abbrev pub decreases-loop-first : goal.decreases-loop-first
decreases-loop-first l = l.arcs - l.first
