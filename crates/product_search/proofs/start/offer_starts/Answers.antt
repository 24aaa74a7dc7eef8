use Rattle.plan_base.proofs.Common.{below_more, slice_index}
use Rattle.product_search.specs.inside.{IsStartAt, IsStartAmong}
use Rattle.product_search.proofs.OfferLemmas.{offers_more, offers_weaker, start_keeps, start_among}
use Rattle.product_search.proofs.start.offer_starts.Goals as goal

pub loop-node-preserved : goal.loop-node-preserved
loop-node-preserved g c =
    let labels = g.L.Labels.automaton c.args.labels.now in
    let old = c.loop-node.frontier in
    let new = c.offer_start.new.frontier in
    let starts = c.args.starts.now in
    let i = c.loop-node.node-index in
    let P = IsStartAt labels (slice_index starts i) in
    let Q = IsStartAmong labels starts in
    let offers = offers_weaker old new P Q (λ w r x is. start_among labels starts i w r x c.loop-node-test.true is) c.in_ok-offer_start.ensures.offers in
    record {
      right = c.in_ok-offer_start.ensures.right;
      offers = offers_more c.args.frontier.now old new Q c.loop-node.invariant.offers offers;
      reached = below_more _ _ (λ k below. start_keeps labels old new Q offers (slice_index starts k) (c.loop-node.invariant.reached k below))
          c.in_ok-offer_start.ensures.reached;
    }
