use Rattle.plan_base.proofs.Common.{◌∙◌, sym, subst}
use Rattle.timetable_arcs.specs.{TableLists}
use Rattle.plain_graph.specs.{IsRideOf}
use Rattle.plain_graph.proofs.RunLemmas.{run_there}
use Rattle.unpack.proofs.plain_walk.push_ride.Goals as goal

pub at-departure-requires-clause-trip : goal.at-departure-requires-clause-trip
at-departure-requires-clause-trip c =
    let is = subst (λ (t : TableLists). IsRideOf t c.args.ride) (sym c.timetable-timetable.ensures.same) c.requires in
    (run_there c.timetable-timetable.result.now c.timetable-timetable.ensures.keeps c.args.ride is c.args.t c.in-Some.run' (sym c.next.ensures.is ∙ c.in-Some.is)).trip

pub at-departure-requires-clause-day : goal.at-departure-requires-clause-day
at-departure-requires-clause-day c =
    let is = subst (λ (t : TableLists). IsRideOf t c.args.ride) (sym c.timetable-timetable.ensures.same) c.requires in
    (run_there c.timetable-timetable.result.now c.timetable-timetable.ensures.keeps c.args.ride is c.args.t c.in-Some.run' (sym c.next.ensures.is ∙ c.in-Some.is)).day
