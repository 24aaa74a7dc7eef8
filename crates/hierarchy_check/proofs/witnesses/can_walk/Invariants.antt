use Rattle.plan_base.proofs.Common.{drop, ◌↔◌}
use Rattle.hierarchy_check.specs.inside.{CanWalk}
use Rattle.hierarchy_check.proofs.witnesses.can_walk.Given as goal

abbrev pub invariant-loop-y : goal.invariant-loop-y
invariant-loop-y l = CanWalk l.h l.x l.at (drop l.y-index l.nodes) l.left ↔ CanWalk l.h l.x l.u l.nodes l.limit
