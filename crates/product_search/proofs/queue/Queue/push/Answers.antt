use Rattle.plan_base.proofs.Common.{arith}
use Rattle.product_search.proofs.QueueLemmas.{taken_in, taken_later}
use Rattle.product_search.proofs.queue.Queue.push.Goals as goal

pub returns-then-place-lt-BUCKETS : goal.returns-then-place-lt-BUCKETS
returns-then-place-lt-BUCKETS c =
    taken_in c.args.self.now c.push_at.new.self c.place-place.result c.args.delay c.args.item c.push_at.result c.requires c.place-place.ensures.begins c.push_at.ensures

pub returns-in_ok-push : goal.returns-in_ok-push
returns-in_ok-push c =
    taken_later c.args.self.now (record { delay = c.args.delay; item = c.args.item }) _ c.requires
    (c.place-place.ensures.past (omega (arith, c.if-place-lt-BUCKETS.false))) c.in_ok-push.ensures.items
