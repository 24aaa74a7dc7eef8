use Rattle.mode_expression.proofs.ParseLemmas.{expressions_are_usable}
use Rattle.mode_expression.proofs.parsing.expressions_are_usable.Goals as goal

pub returns : goal.returns
returns c = expressions_are_usable
