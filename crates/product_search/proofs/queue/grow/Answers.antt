use Rattle.plan_base.proofs.Common.{◌∙◌, arith}
use Rattle.product_search.proofs.QueueLemmas.{bucket-push, bucketed-push}
use Rattle.product_search.proofs.queue.grow.Goals as goal

pub grow-preserved : goal.grow-preserved
grow-preserved c = record {
  same = λ k. rw c.in_ok-push.ensures.items (bucket-push c.grow.buckets.items c.new.result k c.new.ensures.items ∙ c.grow.invariant.same k);
  as_many = rw c.in_ok-push.ensures.items (bucketed-push c.grow.buckets.items c.new.result c.new.ensures.items ∙ c.grow.invariant.as_many);
  few = omega (arith, c.in_ok-push.ensures.len);
}
