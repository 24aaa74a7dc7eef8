use Rattle.plan_base.proofs.Common.{◌≡◌, true, AllWithin}
use Rattle.plain_texts.specs.{is_name}
use Rattle.timetable_arcs.specs.{TripLists}
use Rattle.mode_network.proofs.rules.have_named_trips.Given as goal

abbrev pub invariant-loop-trip : goal.invariant-loop-trip
invariant-loop-trip l = AllWithin (λ (trip : TripLists). is_name trip.name ≡ true) l.trips 0 l.trip-index
