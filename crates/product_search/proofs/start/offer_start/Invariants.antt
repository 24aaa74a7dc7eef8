use Rattle.plan_base.proofs.Common.{ℕ, ◌<◌, IsTrue}
use Rattle.product_search.specs.inside.{IsFrontier, IsReachedBy, Offers, IsStartAt}
use Rattle.product_search.proofs.start.offer_start.Given as goal

abbrev pub invariant-loop-state : goal.invariant-loop-state
invariant-loop-state g l = record {
  right : IsFrontier l.frontier;
  offers : Offers l.initial.frontier l.frontier (IsStartAt (g.L.Labels.automaton l.labels) l.node);
  reached : (q : ℕ) → q < l.state → IsTrue ((g.L.Labels.automaton l.labels).is_start q) → IsReachedBy l.frontier l.node q l.frontier.base;
}
