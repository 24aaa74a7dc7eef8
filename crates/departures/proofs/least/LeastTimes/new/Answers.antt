use Rattle.plan_base.proofs.Common.{subst}
use Rattle.timetable_arcs.specs.{TableLists}
use Rattle.departures.specs.{NoneIsFaster}
use Rattle.departures.proofs.LeastArcLemmas.{least_lawful}
use Rattle.departures.proofs.least.LeastTimes.new.Goals as goal

pub invariant_of-result : goal.invariant_of-result
invariant_of-result c =
    let plain = c.new-plain.result in
    let runs = c.in_ok-runs.runs.items in
    let none = subst (λ (t : TableLists). NoneIsFaster t runs) c.timetable.ensures.same c.in_ok-runs.ensures in
    record { fastest = none; lawful = least_lawful plain.network.now plain.kept plain.timetable.now c.new-plain.ensures.keeps plain.of runs none }
