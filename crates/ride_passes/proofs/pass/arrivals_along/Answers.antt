use Rattle.plan_base.proofs.Common.{◌≡◌, ◌<◌, ◌∙◌, sym, length, length_push, arith, none-some, true, false, false≢true, slice_index_or}
use Rattle.timetable_arcs.specs.{no_call, pattern_trip}
use Rattle.ride_passes.specs.{IsArrivalAt}
use Rattle.ride_passes.proofs.{PassLemmas.stays, PassLemmas.boards, PassLemmas.arrives_first, PassLemmas.arrived, pass.arrivals_along.Goals.then-call+in-Some, pass.arrivals_along.Goals.then-call+in_default, pass.arrivals_along.Goals.else-call}
use Rattle.ride_passes.proofs.pass.arrivals_along.Goals as goal

pub loop-place-preserved : goal.loop-place-preserved
loop-place-preserved c =
    let t = c.args.timetable.now in
    let p = c.args.pattern in
    let reached = c.args.reached.now in
    let place = c.loop-place.place in
    let here = c.loop-place.invariant.boarded in
    let calls = c.pattern_calls-call-items.ensures in
    let within : place < length (pattern_trip t p).calls = rw calls at c.loop-place-test.true in
    let arrival : IsArrivalAt t p reached place c.arrival_at-arrival.result = rw (c.arrival_at-arrival.ensures, calls) (arrives_first t p reached place c.loop-place.boarded within here) in
    record {
      each = rw c.in_ok-push.ensures.items (omega (arith, length_push c.loop-place.arrivals.items c.arrival_at-arrival.result, c.loop-place.invariant.each));
      are = rw c.in_ok-push.ensures.items (arrived t p reached place c.loop-place.arrivals.items c.arrival_at-arrival.result c.loop-place.invariant.each c.loop-place.invariant.are arrival);
      boarded = elim c.if-call.branch [
        | then-call+in-Some w ↦
            let may : (slice_index_or (pattern_trip t p).calls place no_call).board ≡ true = rw calls at w.if-call.true in
            rw w.boarded-is (boards t p reached place w.in-Some.since may w.in-Some.is c.loop-place.boarded w.board-boarded.result here w.board-boarded.ensures)
        | then-call+in_default w ↦
            rw w.boarded-is (stays t p reached place (λ run at. none-some at.since (sym w.in_default.is ∙ at.there)) c.loop-place.boarded here)
        | else-call w ↦
            let may_not : (slice_index_or (pattern_trip t p).calls place no_call).board ≡ false = rw calls at w.if-call.false in
            rw w.boarded-is (stays t p reached place (λ run at. false≢true (sym may_not ∙ at.may_board)) c.loop-place.boarded here)
      ];
    }
