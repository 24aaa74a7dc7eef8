use Rattle.plan_base.proofs.Common.{arith}
use Rattle.automaton.proofs.SetLemmas.{has-low, has-high}
use Rattle.automaton.proofs.position_set.PositionSet.just.Goals as goal

pub returns-then-position-lt128 : goal.returns-then-position-lt128
returns-then-position-lt128 c = has-low c.args.position c.if-position-lt128.true

pub returns-else-position-lt128 : goal.returns-else-position-lt128
returns-else-position-lt128 c = has-high c.args.position c.if-position-lt128.false (omega arith)
