use Rattle.plan_base.proofs.Common.{◌∙◌, ◌++◌, ◌∷◌, [], Vec, refl, ap, sym, Global}
use Rattle.product_search.specs.declared.queue.Item.{Item}
use Rattle.product_search.proofs.QueueLemmas.{put, bucket-get_or}
use Rattle.product_search.proofs.queue.Queue.push_at.Goals as goal

pub returns : goal.returns
returns c =
    let here = c.index_mut.ensures.value in
    put c.args.self.now c.requires.right c.grow.new.buckets.items c.in_ok-grow.ensures.same c.args.place c.in_ok-grow.ensures.long c.push.new.self c.args.item
    (c.in_ok-push.ensures.items ∙ ap (λ (b : Vec Item Global). b.items ++ c.args.item ∷ []) here
    ∙ ap (λ xs. xs ++ c.args.item ∷ []) (sym (bucket-get_or c.grow.new.buckets.items c.args.place c.index_mut.result.now c.in_ok-grow.ensures.long)))
    _ refl c.in_ok-grow.ensures.as_many c.in_ok-grow.ensures.few c.min-self.result c.min-self.ensures
