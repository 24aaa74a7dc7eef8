use Rattle.plan_base.proofs.Common.{◌≡◌, ◌≤◌, ℕ, length, Some, true, count_by, slice_get}
use Rattle.hierarchy.specs.{IsFree}
use Rattle.contractor.specs.{free_below}
use Rattle.contractor.proofs.contracting.free_nodes.Given as goal

abbrev pub invariant-nodes : goal.invariant-nodes
invariant-nodes l = record {
  count : length (l.marks).items ≡ l.v;
  each : (v : ℕ) → slice_get (l.marks).items v ≡ Some true → IsFree l.network v;
  marked : count_by (λ b. b) (l.marks).items ≡ l.count;
  free : l.count ≡ free_below l.network l.v;
  few : l.count ≤ l.v;
}
