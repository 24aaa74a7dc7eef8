use Rattle.promises.proofs.SettledLemmas.{settled_is_unique}
use Rattle.promises.proofs.unique.settled_is_unique.Goals as goal

pub returns : goal.returns
returns c = settled_is_unique c.stops_are_due.ensures
