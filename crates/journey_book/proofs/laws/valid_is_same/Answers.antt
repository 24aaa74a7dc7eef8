use Rattle.journey_book.proofs.LawLemmas.{valid_is_same}
use Rattle.journey_book.proofs.laws.valid_is_same.Goals as goal

pub returns : goal.returns
returns c = valid_is_same
