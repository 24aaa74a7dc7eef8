use Rattle.plan_base.proofs.Common.{take}
use Rattle.contractor.specs.inside.{AreWaysWith}
use Rattle.contractor.proofs.ways.push_ways.Given as goal

abbrev pub invariant-second : goal.invariant-second
invariant-second l = AreWaysWith l.row l.side (take l.edge-index l.second) (l.fn.ways).items (l.ways).items
