use Rattle.plan_base.proofs.Common.{◌≡◌, ℕ, ◌≤◌, AllWithin}
use Rattle.product_search.specs.inside.{IsFrontier, delay_at, Offers, IsGivenIn, IsReachedIfWanted}
use Rattle.product_search.proofs.explore.offer_moves.Given as goal

abbrev pub invariant-loop-next : goal.invariant-loop-next
invariant-loop-next l = record {
  right : IsFrontier l.frontier;
  offers : Offers l.initial.frontier l.frontier (IsGivenIn l.states l.to l.way);
  reached : AllWithin (λ next. (t : ℕ) → l.frontier.base ≤ t → l.way.delay ≡ delay_at l.frontier.base t → IsReachedIfWanted l.frontier l.to next t)
      l.states 0 l.next-index;
}
