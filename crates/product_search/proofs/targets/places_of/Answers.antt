use Rattle.product_search.proofs.NotingLemmas.{places_more}
use Rattle.product_search.proofs.targets.places_of.Goals as goal

pub loop-k-preserved : goal.loop-k-preserved
loop-k-preserved c = rw c.in_ok-number.ensures.count
    (places_more c.args.nodes.now c.loop-k.places.items c.grow.new.first.items c.loop-k.k c.loop-k.invariant c.in_ok-grow.ensures.same c.in_ok-grow.ensures.long)
