use Rattle.plan_base.proofs.Common.{None}
use Rattle.journey_book.proofs.BookLemmas.{book_updates}
use Rattle.journey_book.proofs.memory_keeper.remove_from.Goals as goal

pub returns-clause-rest : goal.returns-clause-rest
returns-clause-rest c = book_updates c.args.name.now c.args.map.now c.remove.new.self None c.remove.ensures.updates
