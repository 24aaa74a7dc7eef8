use Rattle.plan_base.proofs.Common.{◌∙◌, sym, subst, arith, common_steps}
use Rattle.product_search.specs.inside.Queued.{Queued}
use Rattle.product_search.proofs.{QueueLemmas.none_queued, QueueLemmas.none_begins, QueueLemmas.all_passed, QueueLemmas.moved_on, queue.Queue.find_bucket.Goals.then-self-len-via-then-self-len, queue.Queue.find_bucket.Goals.then-self-len-via-else-self-len+then-is_empty}
use Rattle.product_search.proofs.queue.Queue.find_bucket.Goals as goal

pub returns-then-self-len-clause-none : goal.returns-then-self-len-clause-none
returns-then-self-len-clause-none c past = elim c.then-self-len.branch [
  | then-self-len-via-then-self-len w ↦ absurd (omega (arith, past, w.if-self-len.true, c.len.ensures))
  | then-self-len-via-else-self-len+then-is_empty w ↦
      none_queued c.skip_empty.new.self (c.skip_empty.ensures.moves.current ∙ c.requires.empty) (all_passed c.skip_empty.new.self c.skip_empty.ensures.right.right past)
      (grind (arith, common_steps, w.is_empty.ensures, w.if-is_empty.true))
]

pub next_round-requires-clause-none : goal.next_round-requires-clause-none
next_round-requires-clause-none c = all_passed c.skip_empty.new.self c.skip_empty.ensures.right.right (omega (arith, c.if-self-len.false, c.len.ensures))

pub returns-clause-moves : goal.returns-clause-moves
returns-clause-moves c =
    moved_on c.args.self.now c.skip_empty.new.self c.skip_empty-2.new.self c.skip_empty.ensures.moves
    (moved_on c.skip_empty.new.self c.next_round.new.self c.skip_empty-2.new.self c.in_ok-next_round.ensures.moves c.skip_empty-2.ensures.moves)

pub returns-clause-none : goal.returns-clause-none
returns-clause-none c past t x queued =
    let first = c.in_ok-next_round.ensures.begins in
    none_begins c.skip_empty-2.new.self c.skip_empty-2.ensures.right
    (c.skip_empty-2.ensures.moves.current ∙ c.in_ok-next_round.ensures.moves.current ∙ c.skip_empty.ensures.moves.current ∙ c.requires.empty)
    (all_passed c.skip_empty-2.new.self c.skip_empty-2.ensures.right.right past) first.0
    (subst (λ u. Queued c.skip_empty-2.new.self u first.0) (sym c.skip_empty-2.ensures.start) (c.skip_empty-2.ensures.moves.stays _ first.0 first.1))
