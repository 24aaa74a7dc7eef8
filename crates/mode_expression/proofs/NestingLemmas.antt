-- Counting the parentheses of a text.
use Rattle.plan_base.proofs.Common.{◌≡◌, ◌≢◌, ℕ, ◌+◌, ◌<◌, ◌≤◌, ◌==◌, Bool, true, false, nat_le, List, length, get_or, take, count_by, slice_get, Some, refl, sym, ap, ◌∙◌, below_more, arith, nat_tests, count_by_more_yes, count_by_more_no, get_or_from_slice_get, slice_get_past}
use Rattle.mode_expression.specs.{IsTooDeepAt}

-- the parentheses before i, of which none is too deep
pub record IsCounted (text : List ℕ) (i opened closed : ℕ) : Type 0 where
  pub opens : opened ≡ count_by (λ c. c == 40) (take i text)
  pub closes : closed ≡ count_by (λ c. c == 41) (take i text)
  pub few_opened : opened ≤ i
  pub few_closed : closed ≤ i
  pub shallow : (k : ℕ) → k < i → IsTooDeepAt text k → ⊥

module _ (text : List ℕ) (i opened closed : ℕ) (lt : i < length text) (counted : IsCounted text i opened closed) where
  is_here : (b : ℕ) → get_or text i 0 ≡ b → (get_or text i 0 == b) ≡ true
  is_here b is = grind (arith, nat_tests)

  is_not_here : (b : ℕ) → get_or text i 0 ≢ b → (get_or text i 0 == b) ≡ false
  is_not_here b is = grind (arith, nat_tests)

  here_is_open : IsTooDeepAt text i → get_or text i 0 ≡ 40
  here_is_open deep = get_or_from_slice_get text i 40 0 deep.0

  pub counted_open : get_or text i 0 ≡ 40 → opened < closed + 64 → IsCounted text (i + 1) (opened + 1) closed
  counted_open is room = record {
    opens = ap (λ n. n + 1) counted.opens ∙ sym (count_by_more_yes (λ c. c == 40) text i 0 lt (is_here 40 is));
    closes = counted.closes ∙ sym (count_by_more_no (λ c. c == 41) text i 0 lt (is_not_here 41 (λ e. omega arith)));
    few_opened = let h = counted.few_opened in omega arith;
    few_closed = let h = counted.few_closed in omega arith;
    shallow = below_more _ _ counted.shallow (λ deep. omega (arith, deep.1, counted.opens, counted.closes));
  }

  pub counted_close : get_or text i 0 ≡ 41 → IsCounted text (i + 1) opened (closed + 1)
  counted_close is = record {
    opens = counted.opens ∙ sym (count_by_more_no (λ c. c == 40) text i 0 lt (is_not_here 40 (λ e. omega arith)));
    closes = ap (λ n. n + 1) counted.closes ∙ sym (count_by_more_yes (λ c. c == 41) text i 0 lt (is_here 41 is));
    few_opened = let h = counted.few_opened in omega arith;
    few_closed = let h = counted.few_closed in omega arith;
    shallow = below_more _ _ counted.shallow (λ deep. omega (arith, here_is_open deep));
  }

  pub counted_other : get_or text i 0 ≢ 40 → get_or text i 0 ≢ 41 → IsCounted text (i + 1) opened closed
  counted_other no_open no_close = record {
    opens = counted.opens ∙ sym (count_by_more_no (λ c. c == 40) text i 0 lt (is_not_here 40 no_open));
    closes = counted.closes ∙ sym (count_by_more_no (λ c. c == 41) text i 0 lt (is_not_here 41 no_close));
    few_opened = let h = counted.few_opened in omega arith;
    few_closed = let h = counted.few_closed in omega arith;
    shallow = below_more _ _ counted.shallow (λ deep. no_open (here_is_open deep));
  }

pub counted_all : (text : List ℕ) (i opened closed : ℕ) → length text ≤ i → IsCounted text i opened closed → (k : ℕ) → IsTooDeepAt text k → ⊥
counted_all text i opened closed all counted k deep =
    counted.shallow k (within deep.0) deep
  where
    within : slice_get text k ≡ Some 40 → k < i
    within is = by_place (nat_le (length text) k) refl
      where
        by_place : (b : Bool) → nat_le (length text) k ≡ b → k < i
        by_place true past = let le : length text ≤ k = grind (arith, nat_tests) in let none = slice_get_past text k le in absurd (cc)
        by_place false in_text = grind (arith, nat_tests)
