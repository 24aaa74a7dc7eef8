use Rattle.plan_base.proofs.Common.{◌<◌, length, arith}
use Rattle.std.proofs.lemmas.List.Elements.{All-take}
use Rattle.timetable_arcs.specs.{Call, trip_at}
use Rattle.plain_graph.proofs.{RunLemmas.run_known, FreshTies.IsPast, FreshTies.run_given, FreshTies.past_all, FreshTies.past_call, FreshTies.run_fresh, plain.Plain.push_fresh_run.Goals.in-Some-2, plain.Plain.push_fresh_run.Goals.in-None}
use Rattle.plain_graph.proofs.plain.Plain.push_fresh_run.Goals as goal

pub returns-in-Some : goal.returns-in-Some
returns-in-Some c =
    let plain = c.args.self.now in
    let known = run_known plain.network.now plain.kept plain.timetable.now c.known.ensures plain.of c.args.placed.board c.args.next.place c.args.next.run c.requires.board c.requires.run in
    run_given plain.network.now plain.timetable.now c.args.placed.board c.args.next.run known.alike c.requires.board.call c.args.visit.state c.args.placed.first c.known.ensures c.args.next.place c.requires.run
    c.args.given.now c.in-Some.call c.args.ways.now.items c.if-call-board.true c.in-Some.ensures

pub push_rides-requires-clause-day : goal.push_rides-requires-clause-day
push_rides-requires-clause-day c =
    let plain = c.args.self.now in
    (run_known plain.network.now plain.kept plain.timetable.now c.known.ensures plain.of c.args.placed.board c.args.next.place c.args.next.run c.requires.board c.requires.run).day

pub push_rides-requires-clause-stops : goal.push_rides-requires-clause-stops
push_rides-requires-clause-stops c =
    let plain = c.args.self.now in
    let known = run_known plain.network.now plain.kept plain.timetable.now c.known.ensures plain.of c.args.placed.board c.args.next.place c.args.next.run c.requires.board c.requires.run in
    rw c.run_calls-calls.ensures (All-take (λ (call : Call). call.stop < length plain.network.now.stop_names) c.match-call.past (trip_at plain.timetable.now c.args.next.run.trip).calls known.stops)

pub returns : goal.returns
returns c =
    let plain = c.args.self.now in
    let n = plain.network.now in
    let t = plain.timetable.now in
    let alike = (run_known n plain.kept t c.known.ensures plain.of c.args.placed.board c.args.next.place c.args.next.run c.requires.board c.requires.run).alike in
    let is_past : IsPast n t c.args.placed.board c.args.next.run alike c.requires.board.call c.args.visit.state c.args.placed.first c.known.ensures c.args.next.place c.requires.run c.args.given.now c.match-call.past = elim c.match-call.branch [
      | in-Some-2 w ↦ rw (w.past-is, w.min-past.ensures, c.run_calls-calls.ensures)
          (past_call n t c.args.placed.board c.args.next.run alike c.requires.board.call c.args.visit.state c.args.placed.first c.known.ensures c.args.next.place c.requires.run c.args.given.now w.in-Some.call
          (omega (arith, w.if-call-board.false)) w.in-Some.ensures)
      | in-None w ↦ rw (w.past-is, c.run_calls-calls.ensures)
          (past_all n t c.args.placed.board c.args.next.run alike c.requires.board.call c.args.visit.state c.args.placed.first c.known.ensures c.args.next.place c.requires.run c.args.given.now)
    ] in
    run_fresh n t c.args.placed.board c.args.next.run alike c.requires.board.call c.args.visit.state c.args.placed.first c.known.ensures c.args.next.place c.requires.run
    c.args.given.now c.note.new.self c.match-call.past c.args.ways.now.items c.push_rides.new.ways.items
    is_past c.in_ok-note.ensures (rw c.run_calls-calls.ensures at c.in_ok-push_rides.ensures)
