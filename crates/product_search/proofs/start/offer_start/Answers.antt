use Rattle.plan_base.proofs.Common.{below_more}
use Rattle.product_search.specs.inside.{IsStartAt}
use Rattle.product_search.proofs.OfferLemmas.{offers_more, departure_keeps}
use Rattle.product_search.proofs.start.offer_start.Goals as goal

pub loop-state-preserved : goal.loop-state-preserved
loop-state-preserved g c =
    let P = IsStartAt (g.L.Labels.automaton c.args.labels.now) c.args.node in
    let old = c.loop-state.frontier in
    let new = c.offer_start_state.new.frontier in
    let offers = c.in_ok-offer_start_state.ensures.offers in
    record {
      right = c.in_ok-offer_start_state.ensures.right;
      offers = offers_more c.args.frontier.now old new P c.loop-state.invariant.offers offers;
      reached = below_more _ _ (λ q below start. departure_keeps old new P offers c.args.node q (c.loop-state.invariant.reached q below start))
          c.in_ok-offer_start_state.ensures.reached;
    }
