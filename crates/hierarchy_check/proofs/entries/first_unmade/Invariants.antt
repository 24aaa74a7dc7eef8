use Rattle.plan_base.proofs.Common.{HoldsAt}
use Rattle.search_laws.specs.{HoldsBelow}
use Rattle.hierarchy.specs.{IsMade}
use Rattle.hierarchy_check.proofs.entries.first_unmade.Given as goal

abbrev pub invariant-loop-at : goal.invariant-loop-at
invariant-loop-at l = HoldsBelow l.at (HoldsAt (IsMade l.network l.h) l.entries)
