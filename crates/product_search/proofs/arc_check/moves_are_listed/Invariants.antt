use Rattle.plan_base.proofs.Common.{IsBitSet}
use Rattle.search_laws.specs.{HoldsBelow}
use Rattle.product_search.specs.{IsListedBy}
use Rattle.product_search.proofs.arc_check.moves_are_listed.Given as goal

abbrev pub invariant-loop-j : goal.invariant-loop-j
invariant-loop-j g l = HoldsBelow l.j (λ k. IsBitSet ((g.L.Labels.automaton l.labels).move_at l.state k).letters l.letter
    → IsListedBy l.list l.to ((g.L.Labels.automaton l.labels).move_at l.state k).to l.at)
