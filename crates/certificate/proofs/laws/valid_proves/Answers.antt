use Rattle.certificate.proofs.VerifyLemmas.{valid_proves}
use Rattle.certificate.proofs.laws.valid_proves.Goals as goal

pub returns : goal.returns
returns c = valid_proves
