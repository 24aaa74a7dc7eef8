use Rattle.request_commands.proofs.CompleteLemmas.{requests_completes}
use Rattle.request_commands.proofs.laws.requests_completes.Goals as goal

pub returns : goal.returns
returns c = requests_completes
