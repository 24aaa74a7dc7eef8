use Rattle.plan_base.proofs.Common.{ap, sym, ◌∙◌, ◌++◌, length, flat_map, flat_map-map}
use Rattle.timetable_arcs.specs.{TripLists}
use Rattle.region_file.specs.declared.lines.Line.TheVariants as line
use Rattle.region_file.specs.inside.{line_in}
use Rattle.region_file.proofs.PushLaws.{two}
use Rattle.region_file.proofs.encoding.push_trip.Goals as goal

pub returns : goal.returns
returns c =
    let trip : TripLists = c.args.trip.now in
    let text = line_in c.args.format in
    two _ _ _ _ _ c.in_ok-push_trip_line.ensures c.in_ok-push_calls.ensures
    ∙ ap (λ calls. c.args.out.now.items ++ (text (line.Trip trip.letter trip.days (length trip.calls) trip.name) ++ calls))
    (ap (flat_map (λ call. text (line.Call call))) (c.deref.ensures.value ∙ ap (λ (t : TripLists). t.calls) c.trip.view_is) ∙ sym (flat_map-map text line.Call trip.calls))
