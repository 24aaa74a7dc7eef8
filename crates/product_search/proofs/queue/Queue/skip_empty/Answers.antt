use Rattle.plan_base.proofs.Common.{◌≡◌, ◌<◌, ◌∙◌, ◌+◌, [], Vec, refl, sym, ap, arith, length, common_steps, Global}
use Rattle.product_search.specs.declared.queue.Item.{Item}
use Rattle.product_search.proofs.QueueLemmas.{passed_over, moved_on, bucket-get_or}
use Rattle.product_search.proofs.queue.Queue.skip_empty.Goals as goal

pub empty-preserved : goal.empty-preserved
empty-preserved c =
    let q = c.empty.self in
    let lt : q.turn < length q.buckets.items = omega (arith, c.empty-test.true, c.len.ensures) in
    let none : c.index.result.now.items ≡ [] = grind (arith, common_steps, c.is_empty.ensures, c.if-is_empty.true) in
    let on = passed_over q (q.turn + 1) c.empty.invariant.right (c.empty.invariant.moves.current ∙ c.requires.empty) lt
    (bucket-get_or q.buckets.items q.turn c.index.result.now lt ∙ ap (λ (b : Vec Item Global). b.items) (sym c.index.ensures) ∙ none) refl in
    record { right = on.0; moves = moved_on _ q _ c.empty.invariant.moves on.1; start = c.empty.invariant.start }

pub returns-else-is_empty-clause-some : goal.returns-else-is_empty-clause-some
returns-else-is_empty-clause-some c lt none =
    let some : c.index.result.now.items ≡ [] → ⊥ = λ e. grind (arith, common_steps, c.is_empty.ensures, c.if-is_empty.false, ap length e) in
    some (ap (λ (b : Vec Item Global). b.items) c.index.ensures ∙ sym (bucket-get_or c.empty.self.buckets.items c.empty.self.turn c.index.result.now lt) ∙ none)
