use Rattle.hierarchy_check.specs.inside.{AreMet}
use Rattle.hierarchy_check.proofs.order.first_misplaced.Given as goal

abbrev pub invariant-loop-place : goal.invariant-loop-place
invariant-loop-place l = AreMet l.network l.order l.place l.met.items
