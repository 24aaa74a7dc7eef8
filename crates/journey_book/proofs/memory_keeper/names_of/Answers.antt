use Rattle.plan_base.proofs.Common.{rules}
use Rattle.journey_book.proofs.BookLemmas.{names_are}
use Rattle.journey_book.proofs.memory_keeper.names_of.Goals as goal

pub returns : goal.returns
returns c = names_are c.args.map.now c.keys-name-items.ensures.ordered _ (search rules)
