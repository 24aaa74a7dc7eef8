use Rattle.answer_commands.proofs.CompleteLemmas.{answer_completes}
use Rattle.answer_commands.proofs.laws.answer_completes.Goals as goal

pub returns : goal.returns
returns c = answer_completes
