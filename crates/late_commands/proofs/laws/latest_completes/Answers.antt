use Rattle.late_commands.proofs.CompleteLemmas.{latest_completes}
use Rattle.late_commands.proofs.laws.latest_completes.Goals as goal

pub returns : goal.returns
returns c = latest_completes
