use Rattle.plan_base.proofs.Common.{◌≡◌, ℕ, [], length, slice_index_or}
use Rattle.product_search.proofs.moves.StateMoves.none.Given as goal

abbrev pub invariant-loop-letter : goal.invariant-loop-letter
invariant-loop-letter l = record {
  one_each : length l.targets.items ≡ l.letter;
  none : (c : ℕ) → slice_index_or l.targets.items c [] ≡ [];
}
