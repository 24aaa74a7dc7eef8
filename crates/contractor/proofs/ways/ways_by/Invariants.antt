use Rattle.plan_base.proofs.Common.{take}
use Rattle.contractor.proofs.WayLemmas.{AreWaysSoFar}
use Rattle.contractor.proofs.ways.ways_by.Given as goal

abbrev pub invariant-first : goal.invariant-first
invariant-first l = AreWaysSoFar (l.layer).rows.items (take l.side-index l.side-items) (l.sides).second.items (l.ways).items
