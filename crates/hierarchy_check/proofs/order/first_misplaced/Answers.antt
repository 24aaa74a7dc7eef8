use Rattle.plan_base.proofs.Common.{get_or, arith, get_or_default}
use Rattle.hierarchy_check.proofs.OrderLemmas.{misplaced, met_more, free_below}
use Rattle.hierarchy_check.proofs.order.first_misplaced.Goals as goal

pub returns-then-not-meet : goal.returns-then-not-meet
returns-then-not-meet c =
    let x = get_or c.args.order.now c.loop-place.place 0 in
    misplaced c.args.network.now c.args.order.now c.loop-place.place x c.loop-place.met.items c.loop-place.invariant c.loop-place-test.true
    (λ d. get_or_default c.args.order.now c.loop-place.place d 0 c.loop-place-test.true) c.meet.result c.meet.ensures.is c.if-not-meet.true

pub loop-place-preserved : goal.loop-place-preserved
loop-place-preserved c =
    let x = get_or c.args.order.now c.loop-place.place 0 in
    let first = c.meet.ensures.is.0 c.if-not-meet.false in
    rw c.meet.ensures.noted (rw c.if-not-meet.false (met_more c.args.network.now c.args.order.now c.loop-place.place x c.loop-place.met.items c.loop-place.invariant c.loop-place-test.true
    (λ d. get_or_default c.args.order.now c.loop-place.place d 0 c.loop-place-test.true) (free_below c.args.network.now x first.0) first))

pub returns : goal.returns
returns c = λ k lt. c.loop-place.invariant.in_order k (omega (arith, lt, c.loop-place-test.false))
