use Rattle.late_commands.proofs.CompleteLemmas.{few_completes}
use Rattle.late_commands.proofs.laws.few_completes.Goals as goal

pub returns : goal.returns
returns c = few_completes
