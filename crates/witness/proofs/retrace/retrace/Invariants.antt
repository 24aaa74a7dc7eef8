use Rattle.witness.proofs.BackLemmas.{IsBack, at_of}
use Rattle.witness.proofs.retrace.retrace.Given as goal

abbrev pub invariant-back : goal.invariant-back
invariant-back l = IsBack l.rows l.limit l.workspace l.v l.node (l.nodes).items

abbrev pub decreases-back : goal.decreases-back
decreases-back l = at_of l.workspace l.node
