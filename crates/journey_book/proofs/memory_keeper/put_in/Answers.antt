use Rattle.plan_base.proofs.Common.{Some}
use Rattle.journey_book.proofs.BookLemmas.{book_updates}
use Rattle.journey_book.proofs.memory_keeper.put_in.Goals as goal

pub returns-in-Ok-clause-ok : goal.returns-in-Ok-clause-ok
returns-in-Ok-clause-ok c other =
    rw (← c.in_ok-key.ensures.ok, ← c.in_ok-body.ensures.items)
    (book_updates _ c.args.map.now c.insert.new.self (Some c.in_ok-body.body) c.in-Ok.ensures.updates other)
