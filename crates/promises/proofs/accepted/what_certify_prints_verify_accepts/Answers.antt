use Rattle.promises.proofs.AcceptLemmas.{what_certify_prints_verify_accepts}
use Rattle.promises.proofs.accepted.what_certify_prints_verify_accepts.Goals as goal

pub returns : goal.returns
returns c = what_certify_prints_verify_accepts
