use Rattle.plan_base.proofs.Common.{◌≡◌, ◌++◌}
use Rattle.search_laws.specs.{ways_from}
use Rattle.plain_graph.specs.{plain_meaning}
use Rattle.plain_graph.proofs.plain.Plain.push_links.Given as goal

abbrev pub invariant-loop-i : goal.invariant-loop-i
invariant-loop-i l = l.ways.items ≡ l.initial.ways.items ++ ways_from (plain_meaning l.self.network.now l.self.timetable.now) l.visit.node l.visit.at l.visit.letters l.first_place l.i
