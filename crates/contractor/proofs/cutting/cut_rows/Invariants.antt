use Rattle.plan_base.proofs.Common.{take}
use Rattle.contractor.specs.inside.{IsCut}
use Rattle.contractor.proofs.cutting.cut_rows.Given as goal

abbrev pub invariant-nodes : goal.invariant-nodes
invariant-nodes l = IsCut l.x (take l.u-index l.before) (l.fn.rows).items (l.rows).items
