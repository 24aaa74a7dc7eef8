use Rattle.plan_base.proofs.Common.{◌≡◌, take, option_to_list, flat_map}
use Rattle.region_build.specs.{switch_at}
use Rattle.region_build.proofs.switches.all_switches.Given as goal

abbrev pub invariant-loop-node : goal.invariant-loop-node
invariant-loop-node l = l.switches.items ≡ flat_map (λ node. option_to_list (switch_at node)) (take l.node-index l.nodes)
