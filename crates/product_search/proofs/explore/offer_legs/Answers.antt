use Rattle.plan_base.proofs.Common.{◌<◌, length, get_or, arith, slice_get-get_or}
use Rattle.product_search.specs.inside.{IsByLeg, IsByLegs, LegIsReached}
use Rattle.product_search.proofs.{LegLemmas.no_leg, OfferLemmas.offers_more, OfferLemmas.offers_weaker, OfferLemmas.holds_next, OfferLemmas.leg_keeps}
use Rattle.product_search.proofs.explore.offer_legs.Goals as goal

pub loop-i-preserved : goal.loop-i-preserved
loop-i-preserved c =
    let from = c.args.from in
    let next = c.args.next in
    let legs = c.args.legs.now in
    let i = c.loop-i.i in
    let leg = get_or legs i no_leg in
    let old = c.loop-i.frontier in
    let new = c.offer_leg.new.frontier in
    let inside : i < length legs = omega arith in
    let offers = c.in_ok-offer_leg.ensures.offers in
    record {
      right = c.in_ok-offer_leg.ensures.right;
      offers = offers_more c.args.frontier.now old new (IsByLegs from next legs) c.loop-i.invariant.offers
          (offers_weaker old new (IsByLeg from next i leg) (IsByLegs from next legs) (λ w r x by. (i, leg, slice_get-get_or legs i no_leg inside, by)) offers);
      reached = holds_next (LegIsReached old next from.delay) (LegIsReached new next from.delay) legs i no_leg inside
          (leg_keeps old new (IsByLeg from next i leg) offers next from.delay)
          c.loop-i.invariant.reached c.in_ok-offer_leg.ensures.reached;
    }
