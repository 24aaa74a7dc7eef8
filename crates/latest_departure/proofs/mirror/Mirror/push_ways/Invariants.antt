use Rattle.plan_base.proofs.Common.{◌≡◌, ◌++◌, take, sum_by}
use Rattle.search_laws.specs.{ways_from}
use Rattle.latest_departure.specs.{mirrored, entry_count}
use Rattle.latest_departure.proofs.mirror.Mirror.push_ways.Given as goal

abbrev pub invariant-loop-entry : goal.invariant-loop-entry
invariant-loop-entry l = record {
  place : l.place ≡ sum_by entry_count (take l.entry-index l.entry-items);
  ways : l.ways.items ≡ l.initial.ways.items ++ ways_from (mirrored l.self.backwards.now l.self.deadline) l.visit.node l.visit.at l.visit.letters 0 l.place;
}
