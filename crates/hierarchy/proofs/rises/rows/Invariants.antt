use Rattle.plan_base.proofs.Common.{◌≡◌, ℕ, ◌+◌, ◌<◌, length, slice_index_or}
use Rattle.mode_network.specs.{count_below}
use Rattle.hierarchy.specs.{NodeRow, from_of, places_before, node_row, is_rise}
use Rattle.hierarchy.proofs.rises.rows.Given as goal

abbrev pub invariant-loop-v : goal.invariant-loop-v
invariant-loop-v l = record {
  starts : l.v ≡ 0 → l.place ≡ 0;
  goes_on : (w : ℕ) → w + 1 ≡ l.v → l.place ≡ count_below from_of l.entries w;
  rises : l.rises.items ≡ places_before (is_rise l.heights.order.now) l.entries l.place;
  so_far : length l.rows.items ≡ l.v;
  rows : (w : ℕ) (d : NodeRow) → w < l.v → slice_index_or l.rows.items w d ≡ node_row l.heights.order.now l.entries w;
}
