use Rattle.mode_expression.proofs.NestingLemmas.{IsCounted}
use Rattle.mode_expression.proofs.nesting.too_deep.Given as goal

abbrev pub invariant-loop-at : goal.invariant-loop-at
invariant-loop-at l = IsCounted l.text l.at l.opened l.closed
