use Rattle.plan_base.proofs.Common.{◌≡◌, ℕ, drop, length, Contains}
use Rattle.phase_graph.specs.inside.{number_at}
use Rattle.phase_graph.proofs.mark_table.MarkTable.put.Given as goal

-- the nodes that are left alone may have other numbers than 0
abbrev pub invariant-loop-v : goal.invariant-loop-v
invariant-loop-v l = record {
  long : length l.numbers.items ≡ length l.initial.numbers.items;
  others : (v : ℕ) → (Contains (drop l.v-index l.nodes) v → ⊥) → number_at l.numbers.items v ≡ 0;
}
