use Rattle.plan_base.proofs.Common.{◌≡◌, ◌+◌, ◌-◌, ◌≤◌, ◌^◌, ℕ, length}
use Rattle.product_search.specs.inside.{bucket_of, bucketed_len}
use Rattle.product_search.proofs.queue.grow.Given as goal

abbrev pub invariant-grow : goal.invariant-grow
invariant-grow l = record {
  same : (k : ℕ) → bucket_of l.buckets.items k ≡ bucket_of l.fn.buckets.items k;
  as_many : bucketed_len l.buckets.items ≡ bucketed_len l.fn.buckets.items;
  few : length l.buckets.items ≤ 2 ^ 10;
}

abbrev pub decreases-grow : goal.decreases-grow
decreases-grow l = l.place + 1 - length l.buckets.items
