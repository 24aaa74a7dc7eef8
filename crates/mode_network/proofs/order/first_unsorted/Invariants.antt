use Rattle.plan_base.proofs.Common.{◌≡◌, length, ◌+◌, ◌≤◌}
use Rattle.mode_network.specs.{first_unsorted}
use Rattle.mode_network.proofs.order.first_unsorted.Given as goal

abbrev pub invariant-loop-rest : goal.invariant-loop-rest
invariant-loop-rest g l = record {
  same : first_unsorted g.T.Ranked.order l.row l.rest ≡ first_unsorted g.T.Ranked.order 0 l.rows;
  counted : l.row + length l.rest ≤ length l.rows;
}

abbrev pub decreases-loop-rest : goal.decreases-loop-rest
decreases-loop-rest g l = length l.rest
