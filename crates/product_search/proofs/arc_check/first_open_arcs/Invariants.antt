use Rattle.search_laws.specs.{HoldsBelow}
use Rattle.product_search.specs.{ArcsAreListedAt}
use Rattle.product_search.proofs.arc_check.first_open_arcs.Given as goal

abbrev pub invariant-loop-k : goal.invariant-loop-k
invariant-loop-k g l = HoldsBelow l.k (ArcsAreListedAt (g.G.Graph.meaning l.graph) (g.L.Labels.automaton l.labels) l.arrival l.list)
