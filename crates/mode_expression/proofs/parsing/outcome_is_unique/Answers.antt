use Rattle.mode_expression.proofs.{ExistsLemmas.some_outcome, UniqueLemmas.same_outcome}
use Rattle.mode_expression.proofs.parsing.outcome_is_unique.Goals as goal

pub returns-clause-unique : goal.returns-clause-unique
returns-clause-unique c = same_outcome

pub returns-clause-exists : goal.returns-clause-exists
returns-clause-exists c = some_outcome
