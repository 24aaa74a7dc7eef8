use Rattle.plan_base.proofs.Common.{map}
use Rattle.hierarchy.specs.{place_of_fall}
use Rattle.hierarchy_check.proofs.BridgeLemmas.{BridgedSoFar}
use Rattle.hierarchy_check.proofs.bridges.unbridged_at.Given as goal

abbrev pub invariant-loop-fall : goal.invariant-loop-fall
invariant-loop-fall l = BridgedSoFar l.h l.x (map place_of_fall l.fall-items) l.fall-index
