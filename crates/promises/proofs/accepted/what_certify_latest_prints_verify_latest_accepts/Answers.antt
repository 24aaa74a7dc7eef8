use Rattle.promises.proofs.AcceptLemmas.{what_certify_latest_prints_verify_latest_accepts}
use Rattle.promises.proofs.accepted.what_certify_latest_prints_verify_latest_accepts.Goals as goal

pub returns : goal.returns
returns c = what_certify_latest_prints_verify_latest_accepts
