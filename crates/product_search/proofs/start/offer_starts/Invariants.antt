use Rattle.plan_base.proofs.Common.{ℕ, ◌<◌, slice_index}
use Rattle.product_search.specs.inside.{IsFrontier, Offers, IsStartAmong, StartIsReached}
use Rattle.product_search.proofs.start.offer_starts.Given as goal

abbrev pub invariant-loop-node : goal.invariant-loop-node
invariant-loop-node g l = record {
  right : IsFrontier l.frontier;
  offers : Offers l.initial.frontier l.frontier (IsStartAmong (g.L.Labels.automaton l.labels) l.starts);
  reached : (k : ℕ) → k < l.node-index → StartIsReached l.frontier (g.L.Labels.automaton l.labels) (slice_index l.starts k);
}
