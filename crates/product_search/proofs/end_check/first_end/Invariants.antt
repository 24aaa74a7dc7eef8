use Rattle.search_laws.specs.{HoldsBelow}
use Rattle.product_search.specs.{IsNoEndAt}
use Rattle.product_search.proofs.end_check.first_end.Given as goal

abbrev pub invariant-loop-k : goal.invariant-loop-k
invariant-loop-k g l = HoldsBelow l.k (IsNoEndAt (g.L.Labels.automaton l.labels) l.targets l.list)
