use Rattle.search_laws.specs.{HoldsBelow}
use Rattle.product_search.specs.{IsInOrderAt}
use Rattle.product_search.proofs.order_check.first_out_of_order.Given as goal

abbrev pub invariant-loop-k : goal.invariant-loop-k
invariant-loop-k g l = HoldsBelow l.k (IsInOrderAt (g.G.Graph.meaning l.graph) (g.L.Labels.automaton l.labels) l.arrival l.list)
