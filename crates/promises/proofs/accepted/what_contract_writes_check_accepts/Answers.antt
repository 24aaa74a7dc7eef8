use Rattle.promises.proofs.AcceptLemmas.{what_contract_writes_check_accepts}
use Rattle.promises.proofs.accepted.what_contract_writes_check_accepts.Goals as goal

pub returns : goal.returns
returns c = what_contract_writes_check_accepts
