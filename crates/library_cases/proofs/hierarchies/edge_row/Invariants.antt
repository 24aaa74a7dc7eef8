use Rattle.plan_base.proofs.Common.{length, All}
use Rattle.mode_network.specs.{nodes_of}
use Rattle.witness.specs.{IsEdgeOf}
use Rattle.library_cases.proofs.hierarchies.edge_row.Given as goal

abbrev pub invariant-arcs : goal.invariant-arcs
invariant-arcs l = All (IsEdgeOf (length (nodes_of l.network))) l.row.items
