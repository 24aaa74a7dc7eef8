use Rattle.plain_graph.proofs.RunLemmas.{ends_at_stop}
use Rattle.plain_graph.proofs.plain.Plain.ride_arc.Goals as goal

pub stop_node-requires : goal.stop_node-requires
stop_node-requires c =
    let plain = c.args.self.now in
    rw c.pattern_calls.ensures (ends_at_stop plain.network.now plain.kept plain.timetable.now c.known.ensures plain.of c.args.ride c.requires)
