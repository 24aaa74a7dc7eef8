use Rattle.plan_base.proofs.Common.{◌≡◌, ◌≤◌, length}
use Rattle.hierarchy.proofs.HeightLemmas.{AreHeightsFrom}
use Rattle.hierarchy.proofs.heights.heights.Given as goal

abbrev pub invariant-loop-place : goal.invariant-loop-place
invariant-loop-place l = record {
  within : l.place ≤ length l.order;
  one_each : length l.heights.items ≡ l.nodes;
  are : AreHeightsFrom l.nodes l.order l.place l.heights.items;
}

abbrev pub decreases-loop-place : goal.decreases-loop-place
decreases-loop-place l = l.place
