use Rattle.product_search.proofs.QueueLemmas.{HasPutOff}
use Rattle.product_search.proofs.queue.Queue.put_off.Given as goal

abbrev pub invariant-loop-place : goal.invariant-loop-place
invariant-loop-place l = HasPutOff l.fn.self l.self l.place
