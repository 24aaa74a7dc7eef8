use Rattle.plan_base.proofs.Common.{◌≡◌, length, All}
use Rattle.mode_network.specs.{nodes_of}
use Rattle.witness.specs.{IsEdgeOf}
use Rattle.library_cases.proofs.hierarchies.edge_rows.Given as goal

abbrev pub invariant-nodes : goal.invariant-nodes
invariant-nodes l = record {
  one_each : length l.rows.items ≡ l.v;
  edges : All (λ row. All (IsEdgeOf (length (nodes_of l.network))) row.items) l.rows.items;
}
