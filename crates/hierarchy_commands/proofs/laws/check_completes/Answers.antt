use Rattle.hierarchy_commands.proofs.CompleteLemmas.{check_completes}
use Rattle.hierarchy_commands.proofs.laws.check_completes.Goals as goal

pub returns : goal.returns
returns c = check_completes
