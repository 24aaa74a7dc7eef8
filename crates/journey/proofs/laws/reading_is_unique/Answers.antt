use Rattle.journey.proofs.ReadingLemmas.{reading_is_unique}
use Rattle.journey.proofs.laws.reading_is_unique.Goals as goal

pub returns : goal.returns
returns c = reading_is_unique
