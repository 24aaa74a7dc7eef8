use Rattle.plan_base.proofs.Common.{◌∙◌, ◌++◌, ap, option_to_list}
use Rattle.product_search.proofs.QueueLemmas.{puts_one}
use Rattle.product_search.proofs.queue.put_later.Goals as goal

pub items-preserved : goal.items-preserved
items-preserved c =
    puts_one c.args.delay c.args.bucket.now.items c.items.bucket.items c.pop.new.self.items c.args.later.now.items c.items.later.items c.push.new.self.items c.in-Some.item
    (c.pop.ensures.items ∙ ap (λ r. c.pop.new.self.items ++ option_to_list r) c.in-Some.is) c.in_ok-push.ensures.items c.items.invariant
