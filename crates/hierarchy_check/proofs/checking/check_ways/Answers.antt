use Rattle.hierarchy_check.proofs.OrderLemmas.{order_below}
use Rattle.hierarchy_check.proofs.checking.check_ways.Goals as goal

pub first_unbridged-requires-clause-below : goal.first_unbridged-requires-clause-below
first_unbridged-requires-clause-below c = rw c.nodes.ensures (order_below c.args.network.now c.args.h.now.order c.requires.0)
