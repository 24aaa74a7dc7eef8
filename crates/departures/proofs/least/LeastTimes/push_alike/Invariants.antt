use Rattle.plan_base.proofs.Common.{◌≡◌, ◌-◌, ◌≤◌, ◌++◌}
use Rattle.search_laws.specs.{ways_from}
use Rattle.departures.specs.{least_meaning}
use Rattle.departures.proofs.least.LeastTimes.push_alike.Given as goal

abbrev pub invariant-loop-place : goal.invariant-loop-place
invariant-loop-place l = record {
  from : l.first ≤ l.place;
  within : l.place ≤ l.past;
  ways : l.ways.items ≡ l.initial.ways.items ++ ways_from (least_meaning l.self.plain.network.now l.self.plain.timetable.now l.self.runs.items) l.visit.node l.visit.at l.visit.letters l.first (l.place - l.first);
}

abbrev pub decreases-loop-place : goal.decreases-loop-place
decreases-loop-place l = l.past - l.place
