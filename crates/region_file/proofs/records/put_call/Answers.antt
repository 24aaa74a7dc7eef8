use Rattle.plan_base.proofs.Common.{◌≡◌, ◌∙◌, ap, length, get_or, ◌<◌, ◌-◌, arith, rules}
use Rattle.timetable_arcs.specs.{TripLists}
use Rattle.region_file.proofs.LastTrip.{last_set, with_one}
use Rattle.region_file.proofs.records.put_call.Goals as goal

pub returns-in_ok-push : goal.returns-in_ok-push
returns-in_ok-push c =
    let some : 0 < length c.args.trips.now.items = search rules in
    let trip : TripLists = c.in-Some.trip.now in
    let last : trip ≡ get_or c.args.trips.now.items (c.args.trips.now.len - 1) trip = search rules in
    last_set c.args.trips.now.items _ c.args.call trip _ (omega (arith, some))
    (ap (λ calls. record { letter = c.trip.inside.letter; days = c.trip.inside.days; name = c.trip.inside.name; calls = calls }) c.in_ok-push.ensures.items
    ∙ ap (λ t. with_one t c.args.call) (c.trip.view_is ∙ last))
