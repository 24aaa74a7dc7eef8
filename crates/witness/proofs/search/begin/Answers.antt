use Rattle.witness.proofs.SearchLemmas.{begins}
use Rattle.witness.proofs.search.begin.Goals as goal

pub returns-clause-search : goal.returns-clause-search
returns-clause-search c = begins c.args.rows.now c.args.most c.args.u c.clear.new.self c.offer.new.self c.requires c.in_ok-clear.ensures c.in_ok-offer.ensures
