use Rattle.late_commands.proofs.CompleteLemmas.{verify_latest_completes}
use Rattle.late_commands.proofs.laws.verify_latest_completes.Goals as goal

pub returns : goal.returns
returns c = verify_latest_completes
