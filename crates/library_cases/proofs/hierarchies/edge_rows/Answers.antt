use Rattle.plan_base.proofs.Common.{length, arith}
use Rattle.mode_network.specs.{nodes_of}
use Rattle.library_cases.proofs.EdgeLemmas.{edge_rows}
use Rattle.library_cases.proofs.hierarchies.edge_rows.Goals as goal

pub returns-clause-rows : goal.returns-clause-rows
returns-clause-rows c =
    let one_each = c.nodes.invariant.one_each in
    edge_rows (length (nodes_of c.args.network.now)) c.nodes.rows.items (omega arith) c.known.ensures.few_nodes c.nodes.invariant.edges
