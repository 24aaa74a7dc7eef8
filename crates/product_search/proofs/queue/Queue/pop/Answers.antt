use Rattle.product_search.proofs.QueueLemmas.{given, given_right}
use Rattle.product_search.proofs.queue.Queue.pop.Goals as goal

pub returns-clause-right : goal.returns-clause-right
returns-clause-right c = given_right c.args.self.now c.pop.new.self c.requires

pub returns-clause-some : goal.returns-clause-some
returns-clause-some c = given c.args.self.now c.pop.new.self c.requires c.pop.result c.pop.ensures.items
