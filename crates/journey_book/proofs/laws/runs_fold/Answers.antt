use Rattle.journey_book.proofs.FoldLemmas.{runs_fold}
use Rattle.journey_book.proofs.laws.runs_fold.Goals as goal

pub returns : goal.returns
returns c = runs_fold
