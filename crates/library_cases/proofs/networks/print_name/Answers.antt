-- The stop of a node is one of the network's stops, each of which has a name.
use Rattle.plan_base.proofs.Common.{sym, ◌∙◌, arith}
use Rattle.plain_graph.specs.inside.{stop_found}
use Rattle.library_cases.proofs.networks.print_name.Goals as goal

pub stop_name-requires : goal.stop_name-requires
stop_name-requires c =
    let found = stop_found c.args.network.now c.args.v c.in-Some.stop (sym c.stop_at.ensures ∙ c.in-Some.is) in
    omega (arith, found.0, c.known.ensures.parts.one_name_each)

pub stop_node-node-requires : goal.stop_node-node-requires
stop_node-node-requires c =
    let found = stop_found c.args.network.now c.args.v c.in-Some.stop (sym c.stop_at.ensures ∙ c.in-Some.is) in
    omega (arith, found.0, c.known.ensures.parts.one_name_each)
