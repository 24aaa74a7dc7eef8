use Rattle.plan_base.proofs.Common.{◌++◌, slice_index}
use Rattle.timetable_arcs.specs.{pattern_trip}
use Rattle.plain_graph.specs.{day_ways}
use Rattle.plain_graph.proofs.BoardTies.{rides_pushed}
use Rattle.plain_graph.proofs.plain.Plain.push_rides.Goals as goal

pub returns : goal.returns
returns c =
    let n = c.args.self.now.network.now in
    let t = c.args.self.now.timetable.now in
    rides_pushed n (slice_index t.bases c.args.day) (pattern_trip t c.args.board.pattern).letter c.args.calls.now c.loop-later.place c.loop-later.later c.loop-later.ways.items
    (c.args.ways.now.items ++ day_ways n t c.args.board c.args.day c.args.first c.args.calls.now) c.loop-later-test.false
    (rw (c.base-base.ensures, c.pattern_letter-letter.ensures) at c.loop-later.invariant.ways)
