use Rattle.plan_base.proofs.Common.{◌≡◌, ◌<◌, ℕ, [], length}
use Rattle.product_search.specs.inside.{bucket_of}
use Rattle.product_search.proofs.queue.clear_all.Given as goal

abbrev pub invariant-loop-i : goal.invariant-loop-i
invariant-loop-i l = record {
  same : length l.buckets.items ≡ length l.fn.buckets.items;
  none : (k : ℕ) → k < l.i → bucket_of l.buckets.items k ≡ [];
}
