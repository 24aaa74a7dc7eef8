-- The first place of a name.
use Rattle.plan_base.proofs.Common.{◌≡◌, ℕ, ◌<◌, ◌≤◌, List, length, get_or, None, Some, Bool, true, false, arith, position, position_or_len, common_steps, position_or_len_is}

module _ {X : Type 0} (p : X → Bool) (xs : List X) (i : ℕ) (d : X) where
  pub first_place : i < length xs → ((k : ℕ) → k < i → p (get_or xs k d) ≡ false) → p (get_or xs i d) ≡ true → position p xs ≡ Some i
  first_place within before here = let at : position_or_len p xs ≡ i = position_or_len_is p xs i d (omega (arith, within)) before (λ _. here) in grind (arith, common_steps, at, within)

  pub no_place : length xs ≤ i → ((k : ℕ) → k < i → p (get_or xs k d) ≡ false) → position p xs ≡ None
  no_place all before = let at : position_or_len p xs ≡ length xs = position_or_len_is p xs (length xs) d (omega arith) (λ k h. before k (omega (arith, h, all))) (λ h. absurd (omega (arith, h))) in grind (arith, common_steps, at)
