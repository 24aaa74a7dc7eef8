use Rattle.plan_base.proofs.Common.{◌≡◌, ℕ, ◌<◌, length, slice_index_or}
use Rattle.product_search.specs.{declared.moves.StateMoves.StateMoves, inside.AreMoves}
use Rattle.product_search.proofs.moves.move_table.Given as goal

abbrev pub invariant-loop-state : goal.invariant-loop-state
invariant-loop-state g l = record {
  one_each : length l.table.items ≡ l.state;
  are : (q : ℕ) (d : StateMoves) → q < length l.table.items → AreMoves (g.L.Labels.automaton l.labels) q (slice_index_or l.table.items q d);
}
