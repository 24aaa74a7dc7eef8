use Rattle.departures.proofs.ReaderLemmas.{departures_miss_nothing}
use Rattle.departures.proofs.laws.departures_miss_nothing.Goals as goal

pub returns : goal.returns
returns c = departures_miss_nothing
