use Rattle.product_search.proofs.LimitLemmas.{stops_are_due}
use Rattle.product_search.proofs.limit.stops_are_due.Goals as goal

pub returns : goal.returns
returns c = stops_are_due
