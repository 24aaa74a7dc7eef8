use Rattle.plan_base.proofs.Common.{length}
use Rattle.product_search.specs.inside.{PutsLater}
use Rattle.product_search.proofs.queue.put_later.Given as goal

abbrev pub invariant-items : goal.invariant-items
invariant-items l = PutsLater l.delay l.fn.bucket.items l.bucket.items l.fn.later.items l.later.items

abbrev pub decreases-items : goal.decreases-items
decreases-items l = length l.bucket.items
