use Rattle.plan_base.proofs.Common.{◌≡◌, ◌*◌, ◌^◌, ◌≤◌, length, take}
use Rattle.product_search.specs.{start_pairs, AllListed}
use Rattle.product_search.proofs.start_check.first_unlisted_start.Given as goal

abbrev pub invariant-loop-node : goal.invariant-loop-node
invariant-loop-node g l = record {
  counted : l.count ≡ length (start_pairs (g.L.Labels.automaton l.labels) (take l.node-index l.starts));
  few : l.count ≤ l.node-index * 2 ^ 16;
  listed : AllListed l.list l.dep (start_pairs (g.L.Labels.automaton l.labels) (take l.node-index l.starts));
}
