use Rattle.plan_base.proofs.Common.{◌≡◌, ℕ, ◌<◌, ◌≤◌, length, get_or, subst, arith}
use Rattle.product_search.specs.{declared.frontier.Frontier.Frontier, inside.delay_at, inside.IsGiven, inside.IsReachedIfWanted}
use Rattle.product_search.proofs.OfferLemmas.{offers_next, holds_next, if_wanted_keeps}
use Rattle.product_search.proofs.explore.offer_moves.Goals as goal

pub loop-next-preserved : goal.loop-next-preserved
loop-next-preserved c =
    let to = c.args.to in
    let way = c.args.way in
    let states = c.args.states.now in
    let i = c.loop-next.next-index in
    let old = c.loop-next.frontier in
    let new = c.offer.new.self in
    let inside : i < length states = omega arith in
    let offers = c.in_ok-offer.ensures.offers in
    let reached : Frontier → ℕ → Type 0 = λ f next. (t : ℕ) → f.base ≤ t → way.delay ≡ delay_at f.base t → IsReachedIfWanted f to next t in
    record {
      right = c.in_ok-offer.ensures.right;
      offers = offers_next (λ next. IsGiven to next way) states i 0 inside c.args.frontier.now old new c.loop-next.invariant.offers offers;
      reached = holds_next (reached old) (reached new) states i 0 inside
          (λ next before t from is. if_wanted_keeps old new (IsGiven to (get_or states i 0) way) offers to next t
          (before t (subst (λ b. b ≤ t) offers.base from) (subst (λ b. way.delay ≡ delay_at b t) offers.base is)))
          c.loop-next.invariant.reached c.in_ok-offer.ensures.reached;
    }
