use Rattle.plan_base.proofs.Common.{◌∙◌, sym, subst, map, Contains}
use Rattle.product_search.specs.declared.queue.LateItem.{LateItem}
use Rattle.product_search.proofs.QueueLemmas.{round_moves, round_begins}
use Rattle.product_search.proofs.queue.Queue.next_round.Goals as goal

pub returns-clause-moves : goal.returns-clause-moves
returns-clause-moves c = round_moves c.args.self.now c.move_due.new.self c.least_delay-self.result 0 c.requires.empty c.requires.none c.in_ok-move_due.ensures.moves _

pub returns-clause-begins : goal.returns-clause-begins
returns-clause-begins c =
    round_begins c.args.self.now c.move_due.new.self c.least_delay-self.result 0 c.requires.empty c.requires.none c.in_ok-move_due.ensures.moves
    (subst (λ xs. Contains (map (λ (x : LateItem). x.delay) xs) c.least_delay-self.result) c.deref.ensures.value
    (c.least_delay-self.ensures.there (λ e. c.requires.some (sym c.deref.ensures.value ∙ e)))) c.in_ok-move_due.ensures.start
