use Rattle.plan_base.proofs.Common.{◌<◌, length, get_or, arith, All}
use Rattle.product_search.specs.inside.{IsByLegs, LegIsReached}
use Rattle.product_search.proofs.OfferLemmas.{offers_next, holds_next, leg_keeps}
use Rattle.product_search.proofs.explore.offer_to_states.Goals as goal

pub loop-next-preserved : goal.loop-next-preserved
loop-next-preserved c =
    let from = c.args.from in
    let states = c.args.states.now in
    let legs = c.args.legs.now in
    let i = c.loop-next.next-index in
    let old = c.loop-next.frontier in
    let new = c.offer_legs.new.frontier in
    let inside : i < length states = omega arith in
    let offers = c.in_ok-offer_legs.ensures.offers in
    record {
      right = c.in_ok-offer_legs.ensures.right;
      offers = offers_next (λ next. IsByLegs from next legs) states i 0 inside c.args.frontier.now old new c.loop-next.invariant.offers offers;
      reached = holds_next (λ next. All (LegIsReached old next from.delay) legs) (λ next. All (LegIsReached new next from.delay) legs) states i 0 inside
          (λ next reached k d lt. leg_keeps old new (IsByLegs from (get_or states i 0) legs) offers next from.delay (get_or legs k d) (reached k d lt))
          c.loop-next.invariant.reached c.in_ok-offer_legs.ensures.reached;
    }
