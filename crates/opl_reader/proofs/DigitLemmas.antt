-- Digits that are read one by one, and those that stop the reading.
use Rattle.plan_base.proofs.Common.{◌≡◌, ℕ, ◌+◌, ◌*◌, ◌<◌, List, length, take, get_or, fold, Bool, true, false, cond, Option, Some, None, option_map, refl, sym, fold_stuck}
use Rattle.plain_texts.specs.{more}

module _ (digit : ℕ → Option ℕ) (base : ℕ) where
  abbrev step : ℕ → ℕ → Option ℕ
  step n b = option_map (λ d. n * base + d) (digit b)

  -- where one byte is no digit, no number is spelled
  pub bad_digit : (digits : List ℕ) (i n : ℕ) → i < length digits → fold (more step) (Some 0) (take i digits) ≡ Some n → digit (get_or digits i 0) ≡ None
      → (test : Bool) → None ≡ cond test (fold (more step) (Some 0) digits) None
  bad_digit digits i n h so_far bad test =
      let stops : more step (fold (more step) (Some 0) (take i digits)) (get_or digits i 0) ≡ None = rw (so_far, bad) refl in
      let none : None ≡ fold (more step) (Some 0) digits = fold_stuck (more step) None (λ _. refl) (Some 0) digits i 0 h stops in
      rw (sym none) (either test)
    where
      either : (test : Bool) → None ≡ cond {A = Option ℕ} test None None
      either true = refl
      either false = refl
