use Rattle.plan_base.proofs.Common.{◌≡◌, ◌∙◌, ◌<◌, sym, subst, arith, length, swap_remove, get_or_default}
use Rattle.product_search.proofs.QueueLemmas.{due}
use Rattle.product_search.proofs.queue.Queue.move_due.Goals as goal

pub due-preserved-in-Continue-1 : goal.due-preserved-in-Continue-1
due-preserved-in-Continue-1 c =
    let lt : c.due.i < length c.due.self.later.items = omega (arith, c.due-test.true, c.len.ensures) in
    let same : c.swap_remove.result ≡ c.index-late.result.now =
    c.swap_remove.ensures.value ∙ get_or_default c.due.self.later.items c.due.i c.swap_remove.result c.index-late.result.now lt ∙ sym c.index-late.ensures in
    record {
      right = c.in_ok-push_at.ensures.right;
      moves = due _ c.due.self c.push_at.new.self c.index-late.result.now c.due.i c.place-place.result c.swap_remove.new.self lt c.index-late.ensures
          (subst (λ d. c.swap_remove.new.self.items ≡ swap_remove c.due.self.later.items c.due.i d) same c.swap_remove.ensures.items)
          c.place-place.ensures.begins c.due.invariant.moves c.in_ok-push_at.ensures;
      start = c.in_ok-push_at.ensures.start ∙ c.due.invariant.start;
      past = λ k d from below. rw (c.in_ok-push_at.ensures.later, c.in_ok-push_at.ensures.start, c.in_ok-push_at.ensures.bits)
          (rw (c.swap_remove.ensures.by_index.1 k d (omega (arith, below)) (omega (arith, below, lt))) (c.due.invariant.past k d from below));
    }
