use Rattle.plan_base.proofs.Common.{subst, sym}
use Rattle.timetable_arcs.specs.inside.{AreHeads}
use Rattle.timetable_arcs.proofs.HeadLemmas.{heads_set, heads_themselves}
use Rattle.timetable_arcs.proofs.sorting.heads_along.Goals as goal

pub loop-trip-init : goal.loop-trip-init
loop-trip-init c = subst (AreHeads c.args.trips.now) (sym c.in_ok-heads.ensures) (heads_themselves c.args.trips.now _)

pub loop-trip-preserved : goal.loop-trip-preserved
loop-trip-preserved c =
    subst (AreHeads c.args.trips.now) (sym c.set_number.ensures) (heads_set c.args.trips.now _ c.loop-trip.invariant _ _ c.head_after-head.ensures)
