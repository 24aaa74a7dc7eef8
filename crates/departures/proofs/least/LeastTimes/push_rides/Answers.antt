use Rattle.plan_base.proofs.Common.{◌≡◌, ◌<◌, ◌&&◌, nat_lt, length, ◌∙◌, sym}
use Rattle.timetable_arcs.specs.{pattern_trip}
use Rattle.plain_graph.specs.{pattern_call}
use Rattle.plain_graph.proofs.RunLemmas.{call_at_stop}
use Rattle.departures.specs.inside.{ride_to, least_way}
use Rattle.departures.proofs.{BoardLemmas.passes, BoardLemmas.goes_on, least.LeastTimes.push_rides.Goals.then-ends_before+in_ok-push, least.LeastTimes.push_rides.Goals.else-ends_before}
use Rattle.departures.proofs.least.LeastTimes.push_rides.Goals as goal

pub ride_way-requires : goal.ride_way-requires
ride_way-requires c =
    let plain = c.args.self.now.plain in
    let same = c.timetable-timetable.ensures.same in
    let calls = c.pattern_calls-calls.ensures in
    let within : c.loop-alight.alight < length (pattern_trip plain.timetable.now c.args.ride.pattern).calls = rw (calls, same) at c.loop-alight-test.true in
    rw (calls, same)
    (call_at_stop plain.network.now plain.kept plain.timetable.now (rw same at c.timetable-timetable.ensures.keeps) plain.of c.args.ride.pattern c.loop-alight.alight c.requires.ride.pattern within)

pub loop-alight-preserved : goal.loop-alight-preserved
loop-alight-preserved c =
    let s = c.args.self.now in
    let n = s.plain.network.now in
    let t = s.plain.timetable.now in
    let ride = c.args.ride in
    let k = c.loop-alight.alight in
    let place = c.loop-alight.place in
    let same = c.timetable-timetable.ensures.same in
    let calls = c.pattern_calls-calls.ensures in
    let letter = c.pattern_letter-letter.ensures in
    let within : k < length (pattern_trip t ride.pattern).calls = rw (calls, same) at c.loop-alight-test.true in
    let ends : c.ends_before.result ≡ ((pattern_call t ride.pattern k).alight && nat_lt place c.args.past) = rw (calls, same) at c.ends_before.ensures in
    elim c.if-ends_before.branch [
      | then-ends_before+in_ok-push w ↦ (
          let way : w.ride_way.result ≡ least_way n t s.runs.items c.args.t place (ride_to ride k) = rw (calls, letter, same, w.from.ensures, w.ms_to.ensures.value, c.fastest_call-depart.ensures, c.fastest-run.ensures) at w.ride_way.ensures in
          rw (w.place-is, w.ways-is, w.in_ok-push.ensures.items)
          (goes_on n t s.runs.items c.args.t ride c.args.first c.args.past k place c.args.ways.now.items c.loop-alight.ways.items w.ride_way.result within (sym ends ∙ w.if-ends_before.true) way c.loop-alight.invariant))
      | else-ends_before w ↦ rw (w.place-is, w.ways-is)
          (passes n t s.runs.items c.args.t ride c.args.first c.args.past k place c.args.ways.now.items c.loop-alight.ways.items within (sym ends ∙ w.if-ends_before.false) c.loop-alight.invariant)
    ]
