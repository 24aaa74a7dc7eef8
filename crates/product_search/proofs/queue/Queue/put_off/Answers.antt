use Rattle.plan_base.proofs.Common.{◌∙◌, ap, sym, subst, length, refl, arith, ◌<◌, Vec, Global}
use Rattle.product_search.specs.{declared.queue.Item.Item, inside.PutsLater}
use Rattle.product_search.proofs.QueueLemmas.{bucket-get_or, puts_off, put_off_all}
use Rattle.product_search.proofs.queue.Queue.put_off.Goals as goal

pub loop-place-preserved : goal.loop-place-preserved
loop-place-preserved c =
    let q = c.loop-place.self in
    let lt : c.loop-place.place < length q.buckets.items = omega (arith, c.loop-place-test.true, c.len-place-end.ensures, c.loop-place.invariant.size) in
    puts_off c.args.self.now q c.loop-place.place c.begin-delay.result c.loop-place.invariant lt c.begin-delay.ensures c.put_later.new.bucket c.in_ok-put_later.ensures.none
    _ refl c.put_later.new.later
    (subst (λ xs. PutsLater c.begin-delay.result xs c.put_later.new.bucket.items q.later.items c.put_later.new.later.items)
    (sym (bucket-get_or q.buckets.items c.loop-place.place c.index_mut.result.now lt ∙ ap (λ (b : Vec Item Global). b.items) (sym c.index_mut.ensures.value)))
    c.in_ok-put_later.ensures.later)

pub returns-clause-none : goal.returns-clause-none
returns-clause-none c =
    put_off_all c.args.self.now c.loop-place.self c.loop-place.place c.loop-place.invariant (omega (arith, c.loop-place-test.false, c.len-place-end.ensures))
