use Rattle.plan_base.proofs.Common.{◌^◌, arith}
use Rattle.std.proofs.Common.{div-mul-le_self}
use Rattle.product_search.proofs.QueueLemmas.{begins}
use Rattle.product_search.proofs.queue.Queue.place.Goals as goal

pub returns-clause-begins : goal.returns-clause-begins
returns-clause-begins c =
    begins c.args.self.now.start c.args.self.now.bits c.args.delay _
    (omega (arith, c.saturating_sub.ensures, div-mul-le_self c.saturating_sub.result (2 ^ c.args.self.now.bits)))
