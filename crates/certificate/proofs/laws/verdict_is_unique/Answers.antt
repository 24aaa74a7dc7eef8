use Rattle.certificate.proofs.UniqueLemmas.{verdict_is_unique}
use Rattle.certificate.proofs.laws.verdict_is_unique.Goals as goal

pub returns : goal.returns
returns c = verdict_is_unique
