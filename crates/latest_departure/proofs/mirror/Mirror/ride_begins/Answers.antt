use Rattle.plan_base.proofs.Common.{sym, subst, arith}
use Rattle.timetable_arcs.specs.{TableLists}
use Rattle.plain_graph.specs.{IsRideOf}
use Rattle.plain_graph.proofs.RunLemmas.{is_there}
use Rattle.latest_departure.proofs.ArcLemmas.{rides_on}
use Rattle.latest_departure.proofs.mirror.Mirror.ride_begins.Goals as goal

pub at-departure-requires-clause-trip : goal.at-departure-requires-clause-trip
at-departure-requires-clause-trip c =
    let ride = subst (λ (t : TableLists). IsRideOf t c.args.ride) (sym c.timetable-timetable.ensures) c.requires in
    (is_there c.timetable-timetable.result.now c.known.ensures c.args.ride c.in_ok-run.run' c.in_ok-run.ensures.last.is_in ride.within).trip

pub at-departure-requires-clause-day : goal.at-departure-requires-clause-day
at-departure-requires-clause-day c =
    let ride = subst (λ (t : TableLists). IsRideOf t c.args.ride) (sym c.timetable-timetable.ensures) c.requires in
    (is_there c.timetable-timetable.result.now c.known.ensures c.args.ride c.in_ok-run.run' c.in_ok-run.ensures.last.is_in ride.within).day

pub at-departure-requires-clause-call : goal.at-departure-requires-clause-call
at-departure-requires-clause-call c =
    let ride = subst (λ (t : TableLists). IsRideOf t c.args.ride) (sym c.timetable-timetable.ensures) c.requires in
    let later = ride.later in
    let ends = (is_there c.timetable-timetable.result.now c.known.ensures c.args.ride c.in_ok-run.run' c.in_ok-run.ensures.last.is_in ride.within).call in
    omega arith

pub overflow_sub-result : goal.overflow_sub-result
overflow_sub-result c =
    let ride = subst (λ (t : TableLists). IsRideOf t c.args.ride) (sym c.timetable-timetable.ensures) c.requires in
    let last = c.in_ok-run.ensures.last in
    let on = rides_on c.timetable-timetable.result.now c.known.ensures c.args.ride ride.later ride.within c.in_ok-run.run' last.is_in in
    let over = last.in_time in
    let departs = c.at-departure.ensures.departure in
    omega arith
