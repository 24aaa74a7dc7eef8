use Rattle.late_certificate.proofs.UniqueLemmas.{late_verdict_is_unique}
use Rattle.late_certificate.proofs.laws.late_verdict_is_unique.Goals as goal

pub returns : goal.returns
returns c = late_verdict_is_unique
