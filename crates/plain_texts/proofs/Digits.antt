-- Laws of reading digit by digit, for any step.
use Rattle.std.proofs.Common.{◌≡◌, ℕ, List, [], ◌∷◌, ◌++◌, refl, ap, sym, ◌∙◌, subst, append_assoc, ◌<◌, ◌+◌, arith, Option, Some, None, fold, append-nil}
use Rattle.std.proofs.lemmas.List.Sums.{fold-append}
use Rattle.std.proofs.lemmas.Option.{none-some, same_Some}
use Rattle.std.proofs.lemmas.Bool.Decides.{nat_tests}
use Rattle.plain_texts.specs.{more, digit_of}

module _ (step : ℕ → ℕ → Option ℕ) where
  -- a text that was refused stays refused
  pub fold_none : (bs : List ℕ) → fold (more step) None bs ≡ None
  fold_none [] = refl
  fold_none (b ∷ bs) = fold_none bs

  -- What each step keeps, the value that is read has.
  pub fold_takes : (P : ℕ → List ℕ → Type 0) → ((v b w : ℕ) (front : List ℕ) → step v b ≡ Some w → P v front → P w (front ++ b ∷ [])) → (bs front : List ℕ) (v n : ℕ) → P v front → fold (more step) (Some v) bs ≡ Some n → P n (front ++ bs)
  fold_takes P keeps [] front v n h e = rw append-nil (subst (λ x. P x front) (same_Some v n e) h)
  fold_takes P keeps (b ∷ bs) front v n h e = next (step v b) refl e (λ w s. fold_takes P keeps bs (front ++ b ∷ []) w n (keeps v b w front s h))
    where
      next : (o : Option ℕ) → step v b ≡ o → fold (more step) o bs ≡ Some n → ((w : ℕ) → step v b ≡ Some w → fold (more step) (Some w) bs ≡ Some n → P n ((front ++ b ∷ []) ++ bs)) → P n (front ++ b ∷ bs)
      next None s e others = absurd (none-some n (sym (fold_none bs) ∙ e))
      next (Some w) s e others = subst (λ x. P n x) (append_assoc front (b ∷ []) bs) (others w s e)

  -- The first byte makes the first value, and a value that is read had one.
  pub fold_first : (start : Option ℕ) (bs : List ℕ) (n : ℕ) → fold (more step) start bs ≡ Some n → (v : ℕ) × (start ≡ Some v)
  fold_first None bs n e = absurd (none-some n (sym (fold_none bs) ∙ e))
  fold_first (Some v) bs n e = (v, refl)

  -- one byte more at the end is one step more
  pub fold_push : (start : Option ℕ) (bs : List ℕ) (v b : ℕ) → fold (more step) start bs ≡ Some v → fold (more step) start (bs ++ b ∷ []) ≡ step v b
  fold_push start bs v b e = fold-append (more step) start bs (b ∷ []) ∙ ap (λ o. more step o b) e

pub digit_takes : (b d : ℕ) → digit_of b ≡ Some d → (b ≡ 48 + d) × (d < 10)
digit_takes b d e = grind (arith, nat_tests)

pub digit_again : (d : ℕ) → d < 10 → digit_of (48 + d) ≡ Some d
digit_again d e = grind (arith, nat_tests)
