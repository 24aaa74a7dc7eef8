use Rattle.product_search.specs.inside.{queue_len}
use Rattle.product_search.proofs.FrontierLemmas.{HasDropped}
use Rattle.product_search.proofs.frontier.Frontier.take.Given as goal

abbrev pub invariant-loop-item : goal.invariant-loop-item
invariant-loop-item l = HasDropped l.fn.self l.self

abbrev pub decreases-loop-item : goal.decreases-loop-item
decreases-loop-item l = queue_len l.self.queue
