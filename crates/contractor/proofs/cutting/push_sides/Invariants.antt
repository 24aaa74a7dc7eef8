use Rattle.plan_base.proofs.Common.{take}
use Rattle.contractor.specs.inside.{AreSidesOf}
use Rattle.contractor.proofs.cutting.push_sides.Given as goal

abbrev pub invariant-edges : goal.invariant-edges
invariant-edges l = AreSidesOf l.u l.x (take l.edge-index l.row) (l.fn.sides).items (l.sides).items
