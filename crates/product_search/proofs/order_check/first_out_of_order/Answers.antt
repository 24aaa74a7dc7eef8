use Rattle.plan_base.proofs.Common.{length, below_more}
use Rattle.product_search.specs.{IsInOrderAt}
use Rattle.search_laws.proofs.FirstLemmas.{fails_here}
use Rattle.product_search.proofs.order_check.first_out_of_order.Goals as goal

pub returns-then-not-is_in_order_at : goal.returns-then-not-is_in_order_at
returns-then-not-is_in_order_at g c =
    fails_here (length c.args.list.now) (IsInOrderAt (g.G.Graph.meaning c.args.graph.now) (g.L.Labels.automaton c.args.labels.now) c.args.arrival c.args.list.now)
    c.loop-k.k c.is_in_order_at.result c.loop-k-test.true c.is_in_order_at.ensures c.if-not-is_in_order_at.true c.loop-k.invariant

pub loop-k-preserved : goal.loop-k-preserved
loop-k-preserved g c = below_more _ _ c.loop-k.invariant (c.is_in_order_at.ensures.0 c.if-not-is_in_order_at.false)
