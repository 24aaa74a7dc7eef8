use Rattle.product_search.specs.inside.{IsBackTo}
use Rattle.product_search.proofs.retrace.retrace.Given as goal

abbrev pub invariant-back : goal.invariant-back
invariant-back l = IsBackTo l.frontier l.fn.end.link l.way l.hops.items

abbrev pub decreases-back : goal.decreases-back
decreases-back l = l.way.parent
