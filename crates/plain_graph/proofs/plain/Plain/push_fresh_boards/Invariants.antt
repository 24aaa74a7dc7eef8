use Rattle.plan_base.proofs.Common.{take}
use Rattle.timetable_arcs.specs.{boards_at}
use Rattle.search_laws.specs.{AddsFresh}
use Rattle.plain_graph.specs.{boards_ways, plain_rides}
use Rattle.plain_graph.proofs.plain.Plain.push_fresh_boards.Given as goal

abbrev pub invariant-loop-board : goal.invariant-loop-board
invariant-loop-board l =
    AddsFresh (plain_rides l.self.network.now l.self.timetable.now) l.visit.state l.initial.given l.given
    (boards_ways l.self.network.now l.self.timetable.now l.visit.at l.visit.letters l.first (take l.board-index (boards_at l.self.timetable.now l.stop))) l.initial.ways.items l.ways.items
