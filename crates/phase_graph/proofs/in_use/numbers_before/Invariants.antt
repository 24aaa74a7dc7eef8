use Rattle.plan_base.proofs.Common.{◌≡◌, map, take, false}
use Rattle.phase_graph.specs.{phase_node}
use Rattle.phase_graph.proofs.in_use.numbers_before.Given as goal

abbrev pub invariant-loop-v : goal.invariant-loop-v
invariant-loop-v l = l.numbers.items ≡ map (λ v. phase_node v false) (take l.v-index l.nodes)
