use Rattle.plan_base.proofs.Common.{arith, ◌≤◌}
use Rattle.timetable_arcs.specs.{IsIn, departs}
use Rattle.ride_passes.proofs.{RunLemmas.run_there, PassLemmas.keeps, PassLemmas.changes, pass.board.Goals.in-Some+else-departure-since, pass.board.Goals.in_default}
use Rattle.ride_passes.proofs.pass.board.Goals as goal

pub at-departure-requires-clause-trip : goal.at-departure-requires-clause-trip
at-departure-requires-clause-trip c =
    let is_in : IsIn c.args.timetable.now c.args.pattern c.in-Some.run' = rw c.in-Some.is at c.requires.run in
    (run_there c.args.timetable.now c.known.ensures c.args.pattern c.in-Some.run' is_in c.args.place c.requires.call).trip

pub at-departure-requires-clause-day : goal.at-departure-requires-clause-day
at-departure-requires-clause-day c =
    let is_in : IsIn c.args.timetable.now c.args.pattern c.in-Some.run' = rw c.in-Some.is at c.requires.run in
    (run_there c.args.timetable.now c.known.ensures c.args.pattern c.in-Some.run' is_in c.args.place c.requires.call).day

pub at-departure-requires-clause-call : goal.at-departure-requires-clause-call
at-departure-requires-clause-call c =
    let is_in : IsIn c.args.timetable.now c.args.pattern c.in-Some.run' = rw c.in-Some.is at c.requires.run in
    (run_there c.args.timetable.now c.known.ensures c.args.pattern c.in-Some.run' is_in c.args.place c.requires.call).within

pub returns-then-departure-since : goal.returns-then-departure-since
returns-then-departure-since c =
    let is_in : IsIn c.args.timetable.now c.args.pattern c.in-Some.run' = rw c.in-Some.is at c.requires.run in
    let early : departs c.args.timetable.now c.in-Some.run' c.args.place ≤ c.args.since = omega (arith, c.at-departure.ensures.departure, c.if-departure-since.true) in
    rw c.in-Some.is (keeps c.args.timetable.now c.known.ensures c.args.pattern c.args.place c.args.since c.requires.call c.in-Some.run' is_in early)

pub returns : goal.returns
returns c = elim c.match-boarded.branch [
  | in-Some+else-departure-since w ↦
      let is_in : IsIn c.args.timetable.now c.args.pattern w.in-Some.run' = rw w.in-Some.is at c.requires.run in
      let late : c.args.since ≤ departs c.args.timetable.now w.in-Some.run' c.args.place = omega (arith, w.at-departure.ensures.departure, w.if-departure-since.false) in
      changes c.args.timetable.now c.known.ensures c.args.pattern c.args.place c.args.since c.requires.call c.args.boarded c.next.result (rw w.in-Some.is (is_in, late)) c.next.ensures.first
  | in_default w ↦ changes c.args.timetable.now c.known.ensures c.args.pattern c.args.place c.args.since c.requires.call c.args.boarded c.next.result (rw w.in_default.is tt) c.next.ensures.first
]
