use Rattle.plan_base.proofs.Common.{◌≡◌, ◌≤◌, ◌+◌, ◌++◌, drop}
use Rattle.plain_graph.specs.{call_ways}
use Rattle.plain_graph.proofs.plain.Plain.push_rides.Given as goal

abbrev pub invariant-loop-later : goal.invariant-loop-later
invariant-loop-later l = record {
  few : l.place ≤ l.first + l.later;
  ways : l.ways.items ++ call_ways l.self.network.now l.base l.letter l.place (drop l.later l.calls) ≡ l.initial.ways.items ++ call_ways l.self.network.now l.base l.letter l.first (drop (l.fn.board.call + 1) l.calls);
}
