use Rattle.plan_base.proofs.Common.{◌≡◌, ℕ, ◌-◌, ◌<◌, ◌≤◌, length, slice_index_or, Less, Greater}
use Rattle.product_search.specs.{Label, label_of, label_cmp}
use Rattle.product_search.proofs.lookup.is_listed.Given as goal

abbrev pub invariant-loop-low : goal.invariant-loop-low
invariant-loop-low l = record {
  within : l.high ≤ length l.list;
  below : (i : ℕ) (d : Label) → i < l.low → label_cmp (slice_index_or l.list i d) (label_of l.node l.state l.at) ≡ Less;
  above : (i : ℕ) (d : Label) → l.high ≤ i → i < length l.list → label_cmp (slice_index_or l.list i d) (label_of l.node l.state l.at) ≡ Greater;
}

abbrev pub decreases-loop-low : goal.decreases-loop-low
decreases-loop-low l = l.high - l.low
