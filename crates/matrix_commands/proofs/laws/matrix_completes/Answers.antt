use Rattle.matrix_commands.proofs.CompleteLemmas.{matrix_completes}
use Rattle.matrix_commands.proofs.laws.matrix_completes.Goals as goal

pub returns : goal.returns
returns c = matrix_completes
