use Rattle.hierarchy_commands.proofs.CompleteLemmas.{contract_completes}
use Rattle.hierarchy_commands.proofs.laws.contract_completes.Goals as goal

pub returns : goal.returns
returns c = contract_completes
