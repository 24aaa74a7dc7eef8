use Rattle.plan_base.proofs.Common.{◌-◌, ◌<◌, ◌≤◌, Option, length, sym, subst, arith}
use Rattle.timetable_arcs.specs.{Instance, TableLists, IsIn, pattern_trip, arrives, IsLastRun}
use Rattle.timetable_arcs.proofs.TableLemmas.{trip_of_pattern}
use Rattle.plain_graph.specs.{transit_letter}
use Rattle.latest_departure.proofs.mirror.Mirror.push_rides.Goals as goal

pub is_open-requires : goal.is_open-requires
is_open-requires c =
    let t = c.timetable-timetable.result.now in
    let pattern = subst (λ (table : TableLists). c.args.pattern < length table.patterns) (sym c.timetable-timetable.ensures) c.requires.pattern in
    rw c.pattern_letter.ensures (transit_letter (length t.bases) t.stops (pattern_trip t c.args.pattern) (trip_of_pattern t c.known.ensures c.args.pattern pattern))

pub push_run-requires-clause-run : goal.push_run-requires-clause-run
push_run-requires-clause-run c =
    let last = subst (λ (found : Option Instance). IsLastRun c.timetable-timetable.result.now c.args.pattern c.args.call (c.args.self.now.deadline - c.args.visit.at) found) c.in-Some.is c.last.ensures.last in
    subst (λ (t : TableLists). IsIn t c.args.pattern c.in-Some.run') c.timetable-timetable.ensures last.is_in

pub push_run-requires-clause-over : goal.push_run-requires-clause-over
push_run-requires-clause-over c =
    let last = subst (λ (found : Option Instance). IsLastRun c.timetable-timetable.result.now c.args.pattern c.args.call (c.args.self.now.deadline - c.args.visit.at) found) c.in-Some.is c.last.ensures.last in
    let over = last.in_time in
    subst (λ (t : TableLists). arrives t c.in-Some.run' c.args.call ≤ c.args.self.now.deadline) c.timetable-timetable.ensures (omega arith)
