use Rattle.late_commands.proofs.CompleteLemmas.{certify_latest_completes}
use Rattle.late_commands.proofs.laws.certify_latest_completes.Goals as goal

pub returns : goal.returns
returns c = certify_latest_completes
