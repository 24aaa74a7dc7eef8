use Rattle.plan_base.proofs.Common.{◌≡◌, map, take}
use Rattle.region_build.specs.{switch_node}
use Rattle.region_build.proofs.switches.switch_nodes.Given as goal

abbrev pub invariant-loop-switch : goal.invariant-loop-switch
invariant-loop-switch l = l.nodes.items ≡ map switch_node (take l.switch-index l.switches)
