use Rattle.plan_base.proofs.Common.{◌≡◌, ◌++◌, take, flat_map}
use Rattle.mode_network.specs.{nodes_of}
use Rattle.region_file.specs.inside.{node_in}
use Rattle.region_file.proofs.encoding.push_nodes.Given as goal

abbrev pub invariant-loop-v : goal.invariant-loop-v
invariant-loop-v l = l.out.items ≡ l.fn.out.items ++ flat_map (node_in l.format l.network.stop_names) (take l.v (nodes_of l.network))
