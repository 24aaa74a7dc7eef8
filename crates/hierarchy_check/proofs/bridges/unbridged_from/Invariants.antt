use Rattle.plan_base.proofs.Common.{HoldsAt}
use Rattle.search_laws.specs.{HoldsBelow}
use Rattle.hierarchy.specs.{PairIsBridged}
use Rattle.hierarchy_check.proofs.bridges.unbridged_from.Given as goal

abbrev pub invariant-loop-by : goal.invariant-loop-by
invariant-loop-by l = HoldsBelow l.by (HoldsAt (PairIsBridged l.h l.x l.entry) l.entries)
