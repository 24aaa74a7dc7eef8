use Rattle.late_commands.proofs.CompleteLemmas.{profile_completes}
use Rattle.late_commands.proofs.laws.profile_completes.Goals as goal

pub returns : goal.returns
returns c = profile_completes
