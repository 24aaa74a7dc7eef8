use Rattle.latest_departure.proofs.ValidLemmas.{valid_late_proves}
use Rattle.latest_departure.proofs.laws.valid_late_proves.Goals as goal

pub returns : goal.returns
returns c = valid_late_proves
