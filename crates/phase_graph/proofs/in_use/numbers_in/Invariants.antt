use Rattle.plan_base.proofs.Common.{◌≡◌, take, flat_map}
use Rattle.phase_graph.specs.{target_numbers}
use Rattle.phase_graph.proofs.in_use.numbers_in.Given as goal

abbrev pub invariant-loop-v : goal.invariant-loop-v
invariant-loop-v l = l.ends.items ≡ flat_map (target_numbers l.hierarchy) (take l.v-index l.targets)
