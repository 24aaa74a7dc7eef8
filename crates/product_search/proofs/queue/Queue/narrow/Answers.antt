use Rattle.plan_base.proofs.Common.{◌∙◌, ap, Vec, Global}
use Rattle.product_search.specs.declared.queue.Item.{Item}
use Rattle.product_search.proofs.QueueLemmas.{narrowed}
use Rattle.product_search.proofs.queue.Queue.narrow.Goals as goal

pub returns : goal.returns
returns c =
    let items = λ (v : Vec Item Global). v.items in
    narrowed c.args.self.now c.put_off.new.self c.move_due.new.self c.replace-lot.new.dest c.replace-lot.result.items _ _ (ap items c.replace-lot.ensures.after ∙ c.new.ensures.items)
    (ap items c.replace-lot.ensures.value) c.in_ok-put_off.ensures.moves c.in_ok-put_off.ensures.none c.in_ok-move_due.ensures.right c.in_ok-move_due.ensures.moves
