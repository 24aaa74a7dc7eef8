use Rattle.plan_base.proofs.Common.{◌<◌, ◌∙◌, ap, sym, subst, set, length, IsPermutation, arith, get_or_default}
use Rattle.std.proofs.lemmas.List.Sorted.{IsPermutation-reverse}
use Rattle.product_search.specs.declared.queue.Queue.{Queue}
use Rattle.product_search.proofs.{QueueLemmas.counted, QueueLemmas.taken, QueueLemmas.taken_round, QueueLemmas.not_taken, queue.Queue.next_lot.Goals.else-self-len-via-then-self-len+else-floor-until, queue.Queue.next_lot.Goals.else-self-len-via-else-self-len}
use Rattle.product_search.proofs.queue.Queue.next_lot.Goals as goal

pub returns-then-floor-until : goal.returns-then-floor-until
returns-then-floor-until c =
    let q : Queue = record c.find_bucket.new.self { lots = c.if-self-before.self } in
    let found = counted c.args.self.now c.find_bucket.new.self c.if-self-before.self c.in_ok-find_bucket.ensures.right c.in_ok-find_bucket.ensures.moves in
    let lt : q.turn < length q.buckets.items = omega (arith, c.if-self-len.true, c.len.ensures) in
    let none = c.in_ok-find_bucket.ensures.moves.current ∙ c.requires.empty in
    taken_round c.args.self.now q found.0 found.1 none c.args.until c.swap.new.x _ c.reverse.new.self
    (subst (IsPermutation c.swap.new.x.items) (sym c.reverse.ensures.items) (IsPermutation-reverse c.swap.new.x.items))
    (taken c.args.self.now q found.0 found.1 none c.args.until c.swap.new.x _ lt
    (c.swap.ensures.x_after ∙ c.index_mut.ensures.value ∙ get_or_default q.buckets.items q.turn c.index_mut.result.now c.swap.new.x lt)
    (ap (set q.buckets.items q.turn) c.swap.ensures.y_after) (c.in_ok-find_bucket.ensures.some lt))

pub returns-else-self-len : goal.returns-else-self-len
returns-else-self-len c =
    let q : Queue = record c.find_bucket.new.self { lots = c.if-self-before.self } in
    let found = counted c.args.self.now c.find_bucket.new.self c.if-self-before.self c.in_ok-find_bucket.ensures.right c.in_ok-find_bucket.ensures.moves in
    not_taken c.args.self.now q found.0 found.1 (c.in_ok-find_bucket.ensures.moves.current ∙ c.requires.empty) c.args.until
    (λ u y queued. elim c.else-self-len.branch [
      | else-self-len-via-then-self-len+else-floor-until w ↦ omega (arith, w.floor.ensures u y queued, w.if-floor-until.false)
      | else-self-len-via-else-self-len w ↦ absurd (c.in_ok-find_bucket.ensures.none (omega (arith, w.if-self-len.false, c.len.ensures)) u y queued)
    ])
