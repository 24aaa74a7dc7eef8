use Rattle.plan_base.proofs.Common.{HoldsAt}
use Rattle.search_laws.specs.{HoldsBelow}
use Rattle.hierarchy.specs.{IsCovered}
use Rattle.hierarchy_check.proofs.entries.first_uncovered.Given as goal

abbrev pub invariant-loop-at : goal.invariant-loop-at
invariant-loop-at l = HoldsBelow l.at (HoldsAt (IsCovered l.h) l.arcs)
