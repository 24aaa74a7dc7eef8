use Rattle.plan_base.proofs.Common.{AllWithin}
use Rattle.product_search.specs.inside.{IsFrontier, Offers, IsByLegs, LegIsReached}
use Rattle.product_search.proofs.explore.offer_legs.Given as goal

abbrev pub invariant-loop-i : goal.invariant-loop-i
invariant-loop-i l = record {
  right : IsFrontier l.frontier;
  offers : Offers l.initial.frontier l.frontier (IsByLegs l.from l.next l.legs);
  reached : AllWithin (LegIsReached l.frontier l.next l.from.delay) l.legs 0 l.i;
}
