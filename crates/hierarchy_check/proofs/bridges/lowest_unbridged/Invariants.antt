use Rattle.hierarchy_check.proofs.BridgeLemmas.{LowestSoFar}
use Rattle.hierarchy_check.proofs.bridges.lowest_unbridged.Given as goal

abbrev pub invariant-loop-x : goal.invariant-loop-x
invariant-loop-x l = LowestSoFar l.h l.x l.lowest
