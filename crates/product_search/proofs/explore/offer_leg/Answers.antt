use Rattle.plan_base.proofs.Common.{◌≡◌, ◌+◌, ◌∙◌, ap, arith, on_ok_weaker}
use Rattle.product_search.specs.{declared.row.Reached.Reached, inside.IsByLeg, inside.IsGiven, inside.way_by}
use Rattle.product_search.proofs.OfferLemmas.{offers_weaker}
use Rattle.product_search.proofs.explore.offer_leg.Goals as goal

pub returns-clause-offers : goal.returns-clause-offers
returns-clause-offers c =
    let from = c.args.from in
    let leg = c.args.leg in
    let given = IsGiven leg.to c.args.next c.way_by.result in
    on_ok_weaker c.offer.result (offers_weaker c.args.frontier.now c.offer.new.self given (IsByLeg from c.args.next c.args.place leg) (λ w r x is.
    let made = is.as_given ∙ c.way_by.ensures in
    let delay = ap (λ (y : Reached). y.delay) made in
    let sum : c.saturating_add-delay.result ≡ from.delay + leg.ms = grind (arith, delay, is.soon) in
    record { node = is.node; state = is.state; as_made = made ∙ ap (way_by from c.args.place) sum })) c.offer.ensures.offers
