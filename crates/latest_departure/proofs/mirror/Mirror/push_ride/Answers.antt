use Rattle.plan_base.proofs.Common.{◌≤◌, sym, subst, arith}
use Rattle.timetable_arcs.specs.{TableLists, IsIn, arrives}
use Rattle.plain_graph.specs.{IsRideOf}
use Rattle.plain_graph.proofs.RunLemmas.{is_there}
use Rattle.latest_departure.proofs.ArcLemmas.{rides_on}
use Rattle.latest_departure.proofs.mirror.Mirror.push_ride.Goals as goal

pub at-departure-requires-clause-trip : goal.at-departure-requires-clause-trip
at-departure-requires-clause-trip c =
    let same = sym c.timetable-timetable.ensures in
    let ride = subst (λ (t : TableLists). IsRideOf t c.args.ride) same c.requires.ride in
    let is_in = subst (λ (t : TableLists). IsIn t c.args.ride.pattern c.args.run) same c.requires.run in
    (is_there c.timetable-timetable.result.now c.known.ensures c.args.ride c.args.run is_in ride.within).trip

pub at-departure-requires-clause-day : goal.at-departure-requires-clause-day
at-departure-requires-clause-day c =
    let same = sym c.timetable-timetable.ensures in
    let ride = subst (λ (t : TableLists). IsRideOf t c.args.ride) same c.requires.ride in
    let is_in = subst (λ (t : TableLists). IsIn t c.args.ride.pattern c.args.run) same c.requires.run in
    (is_there c.timetable-timetable.result.now c.known.ensures c.args.ride c.args.run is_in ride.within).day

pub at-departure-requires-clause-call : goal.at-departure-requires-clause-call
at-departure-requires-clause-call c =
    let same = sym c.timetable-timetable.ensures in
    let ride = subst (λ (t : TableLists). IsRideOf t c.args.ride) same c.requires.ride in
    let is_in = subst (λ (t : TableLists). IsIn t c.args.ride.pattern c.args.run) same c.requires.run in
    let later = ride.later in
    let ends = (is_there c.timetable-timetable.result.now c.known.ensures c.args.ride c.args.run is_in ride.within).call in
    omega arith

pub overflow_sub-at : goal.overflow_sub-at
overflow_sub-at c =
    let same = sym c.timetable-timetable.ensures in
    let ride = subst (λ (t : TableLists). IsRideOf t c.args.ride) same c.requires.ride in
    let is_in = subst (λ (t : TableLists). IsIn t c.args.ride.pattern c.args.run) same c.requires.run in
    let over = subst (λ (t : TableLists). arrives t c.args.run c.args.ride.alight ≤ c.args.self.now.deadline) same c.requires.over in
    let on = rides_on c.timetable-timetable.result.now c.known.ensures c.args.ride ride.later ride.within c.args.run is_in in
    let departs = c.at-departure.ensures.departure in
    omega arith
