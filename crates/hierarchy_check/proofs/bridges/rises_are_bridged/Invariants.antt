use Rattle.plan_base.proofs.Common.{get_or}
use Rattle.search_laws.specs.{HoldsBelow}
use Rattle.hierarchy.specs.{entry_at}
use Rattle.hierarchy_check.specs.inside.{RiseIsBridged}
use Rattle.hierarchy_check.proofs.bridges.rises_are_bridged.Given as goal

abbrev pub invariant-loop-place : goal.invariant-loop-place
invariant-loop-place l = HoldsBelow l.place-index (λ i. RiseIsBridged l.h l.x l.entry (entry_at l.h.entries (get_or l.place-items i 0)))
