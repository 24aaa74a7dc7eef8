use Rattle.plan_base.proofs.Common.{◌<◌, ◌^◌, AllWithin}
use Rattle.timetable_arcs.proofs.rules.have_few_days.Given as goal

abbrev pub invariant-loop-trip : goal.invariant-loop-trip
invariant-loop-trip l = AllWithin (λ trip. trip.days.0 < 2 ^ 128) l.trips 0 l.trip-index
