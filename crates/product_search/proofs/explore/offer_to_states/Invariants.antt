use Rattle.plan_base.proofs.Common.{All, AllWithin}
use Rattle.product_search.specs.inside.{IsFrontier, Offers, IsByLegsIn, LegIsReached}
use Rattle.product_search.proofs.explore.offer_to_states.Given as goal

abbrev pub invariant-loop-next : goal.invariant-loop-next
invariant-loop-next l = record {
  right : IsFrontier l.frontier;
  offers : Offers l.initial.frontier l.frontier (IsByLegsIn l.from l.states l.legs);
  reached : AllWithin (λ next. All (LegIsReached l.frontier next l.from.delay) l.legs) l.states 0 l.next-index;
}
