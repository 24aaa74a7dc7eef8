use Rattle.product_search.proofs.StartLemmas.{IsCounted}
use Rattle.product_search.proofs.start_check.unlisted_state.Given as goal

abbrev pub invariant-loop-state : goal.invariant-loop-state
invariant-loop-state g l = IsCounted (g.L.Labels.automaton l.labels) l.list l.dep l.node l.state l.count
