use Rattle.journey_book.proofs.LawLemmas.{reports_are_fixed}
use Rattle.journey_book.proofs.laws.reports_are_fixed.Goals as goal

pub returns : goal.returns
returns c = reports_are_fixed
