use Rattle.plan_base.proofs.Common.{length}
use Rattle.timetable_arcs.specs.{pattern_trip}
use Rattle.timetable_arcs.proofs.TableLemmas.{trip_of_pattern}
use Rattle.plain_graph.specs.{transit_letter}
use Rattle.plain_graph.proofs.plain.Plain.open_run.Goals as goal

pub is_open-requires : goal.is_open-requires
is_open-requires c =
    let t = c.args.self.now.timetable.now in
    rw c.pattern_letter-letter.ensures (transit_letter (length t.bases) t.stops (pattern_trip t c.args.board.pattern) (trip_of_pattern t c.known.ensures c.args.board.pattern c.requires.pattern))
