use Rattle.plan_base.proofs.Common.{◌≡◌, ◌+◌, ◌-◌, ◌<◌, ◌≤◌, ◌++◌, length, sym, arith, IfOk-weaker}
use Rattle.departures.specs.{least_meaning, inside.ends_from, inside.least_ways, inside.AddsAlike}
use Rattle.departures.proofs.BoardArcLemmas.{count_within, one_at_least, adds_rides, if_both}
use Rattle.departures.proofs.least.LeastTimes.push_next.Goals as goal

pub returns-in-Ride-clause-later : goal.returns-in-Ride-clause-later
returns-in-Ride-clause-later c =
    let s = c.args.self.now in
    let n = s.plain.network.now in
    let t = s.plain.timetable.now in
    let ride = c.in-Ride.ride in
    let place = c.args.place in
    let inside = c.requires.within in
    let more = one_at_least n t c.args.v s.plain.kept c.known.ensures place ride (omega (arith, c.requires.some, inside)) (sym c.in-Ride.ensures.value) c.args.past c.requires.some in
    IfOk-weaker c.push_rides.result (λ next. next ≡ place + length (ends_from t ride.pattern ride.alight (c.args.past - place))) (λ next. place < next) (λ next is. omega (arith, is, more)) c.push_rides.ensures.next

pub returns-in-Ride-clause-within : goal.returns-in-Ride-clause-within
returns-in-Ride-clause-within c =
    let s = c.args.self.now in
    let n = s.plain.network.now in
    let t = s.plain.timetable.now in
    let ride = c.in-Ride.ride in
    let place = c.args.place in
    let inside = c.requires.within in
    let most = count_within n t c.args.v s.plain.kept c.known.ensures place ride (omega (arith, c.requires.some, inside)) (sym c.in-Ride.ensures.value) c.args.past c.requires.some in
    IfOk-weaker c.push_rides.result (λ next. next ≡ place + length (ends_from t ride.pattern ride.alight (c.args.past - place))) (λ next. next ≤ c.args.past) (λ next is. omega (arith, is, most)) c.push_rides.ensures.next

pub returns-in-Ride-clause-ways : goal.returns-in-Ride-clause-ways
returns-in-Ride-clause-ways c =
    let s = c.args.self.now in
    let n = s.plain.network.now in
    let t = s.plain.timetable.now in
    let ride = c.in-Ride.ride in
    let place = c.args.place in
    let inside = c.requires.within in
    let ends = ends_from t ride.pattern ride.alight (c.args.past - place) in
    let before = c.args.ways.now.items in
    let after = c.push_rides.new.ways.items in
    if_both c.push_rides.result (λ next. next ≡ place + length ends) (after ≡ before ++ least_ways n t s.runs.items c.args.t ride place ends)
    (λ next. AddsAlike (least_meaning n t s.runs.items) c.args.v c.args.t place next before after)
    (λ next is adds. adds_rides n t c.args.v s.plain.kept c.known.ensures place ride (omega (arith, c.requires.some, inside)) (sym c.in-Ride.ensures.value) c.args.past c.requires.some
    s.runs.items c.args.t next before after is adds)
    c.push_rides.ensures.next c.push_rides.ensures.ways
