use Rattle.answer_commands.proofs.CompleteLemmas.{certify_completes}
use Rattle.answer_commands.proofs.laws.certify_completes.Goals as goal

pub returns : goal.returns
returns c = certify_completes
