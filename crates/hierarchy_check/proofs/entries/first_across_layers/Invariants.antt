use Rattle.plan_base.proofs.Common.{HoldsAt}
use Rattle.search_laws.specs.{HoldsBelow}
use Rattle.hierarchy.specs.{FitsLayer}
use Rattle.hierarchy_check.proofs.entries.first_across_layers.Given as goal

abbrev pub invariant-loop-at : goal.invariant-loop-at
invariant-loop-at l = HoldsBelow l.at (HoldsAt (FitsLayer l.network) l.entries)
