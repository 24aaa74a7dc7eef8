use Rattle.plain_graph.proofs.RunLemmas.{ends_at_stop}
use Rattle.departures.proofs.least.LeastTimes.ride_arc.Goals as goal

pub stop_node-requires : goal.stop_node-requires
stop_node-requires c =
    let plain = c.args.self.now.plain in
    rw (c.pattern_calls.ensures, c.timetable-timetable.ensures.same, c.network.ensures)
    (ends_at_stop plain.network.now plain.kept plain.timetable.now (rw c.timetable-timetable.ensures.same at c.timetable-timetable.ensures.keeps) plain.of c.args.ride c.requires)
