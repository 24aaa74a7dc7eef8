use Rattle.plain_graph.specs.{plain_lawful}
use Rattle.plain_graph.proofs.Same.{walks_are_journeys, journeys_are_walks, arcs_are_steps, steps_are_arcs}
use Rattle.plain_graph.proofs.plain.Plain.new.Goals as goal

pub invariant_of-result : goal.invariant_of-result
invariant_of-result c =
    let table = c.timetable-timetable in
    record {
      kept = c.known.ensures;
      of = table.ensures.of;
      lawful = plain_lawful c.args.network.now c.known.ensures table.result.now table.ensures.keeps table.ensures.of;
    }

pub returns-clause-walks : goal.returns-clause-walks
returns-clause-walks c = walks_are_journeys c.args.network.now c.known.ensures c.timetable-timetable.result.now c.timetable-timetable.ensures.keeps c.timetable-timetable.ensures.of

pub returns-clause-journeys : goal.returns-clause-journeys
returns-clause-journeys c = journeys_are_walks c.args.network.now c.known.ensures c.timetable-timetable.result.now c.timetable-timetable.ensures.keeps c.timetable-timetable.ensures.of

pub returns-clause-arcs : goal.returns-clause-arcs
returns-clause-arcs c = arcs_are_steps c.args.network.now c.known.ensures c.timetable-timetable.result.now c.timetable-timetable.ensures.keeps c.timetable-timetable.ensures.of

pub returns-clause-steps : goal.returns-clause-steps
returns-clause-steps c = steps_are_arcs c.args.network.now c.known.ensures c.timetable-timetable.result.now c.timetable-timetable.ensures.keeps c.timetable-timetable.ensures.of
