use Rattle.plan_base.proofs.Common.{◌≡◌, ◌+◌, ◌-◌, length}
use Rattle.mode_network.specs.{nodes_of}
use Rattle.contractor.specs.inside.{IsState, AreWaiting}
use Rattle.contractor.proofs.contracting.contract_nodes.Given as goal

abbrev pub invariant-nodes : goal.invariant-nodes
invariant-nodes g l = record {
  state : IsState l.network l.layer;
  count : length (l.layer).rows.items ≡ length (nodes_of l.network);
  done : length (l.layer).order.items + l.left ≡ l.number;
  waiting : AreWaiting l.network (l.layer).order.items (l.fn.waiting.count - length (l.layer).order.items) (l.marks).items;
}

abbrev pub decreases-nodes : goal.decreases-nodes
decreases-nodes g l = l.left
