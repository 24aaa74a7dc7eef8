use Rattle.plan_base.proofs.Common.{◌≡◌, ◌++◌, take, flat_map}
use Rattle.hierarchy_file.specs.{node_in_bytes}
use Rattle.hierarchy_file.proofs.encoding.push_nodes.Given as goal

abbrev pub invariant-loop-node : goal.invariant-loop-node
invariant-loop-node l = l.out.items ≡ l.fn.out.items ++ flat_map node_in_bytes (take l.node-index l.nodes)
