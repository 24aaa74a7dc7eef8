use Rattle.departures.proofs.MovedLemmas.{without_is_the_same}
use Rattle.departures.proofs.laws.without_is_the_same.Goals as goal

pub returns : goal.returns
returns c = without_is_the_same
