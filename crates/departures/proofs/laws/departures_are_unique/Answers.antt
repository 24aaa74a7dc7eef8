use Rattle.departures.proofs.ListLemmas.{departures_are_unique}
use Rattle.departures.proofs.laws.departures_are_unique.Goals as goal

pub returns : goal.returns
returns c = departures_are_unique
