use Rattle.plan_base.proofs.Common.{sym}
use Rattle.journey_book.specs.{given_view, book_commands}
use Rattle.journey_book.proofs.NameLemmas.{asks_for_none}
use Rattle.journey_book.proofs.words.named.Goals as goal

pub returns-in_default : goal.returns-in_default
returns-in_default c =
    let n = c.in_default in
    sym (asks_for_none c.args.command.now (given_view c.args.given) book_commands (n.not-keep, (n.not-drop, (n.not-list, (n.not-show, (n.not-recheck, (n.not-review, tt)))))))
