use Rattle.answer_commands.proofs.CompleteLemmas.{verify_completes}
use Rattle.answer_commands.proofs.laws.verify_completes.Goals as goal

pub returns : goal.returns
returns c = verify_completes
