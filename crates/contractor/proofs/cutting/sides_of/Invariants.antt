use Rattle.plan_base.proofs.Common.{take}
use Rattle.contractor.specs.inside.{AreSides}
use Rattle.contractor.proofs.cutting.sides_of.Given as goal

abbrev pub invariant-nodes : goal.invariant-nodes
invariant-nodes l = AreSides l.rows l.x (take l.u-index l.before) (l.sides).items
