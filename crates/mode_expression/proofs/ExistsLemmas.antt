-- Each text gives an expression or a fault.
use Rattle.plan_base.proofs.Common.{◌≡◌, ℕ, zero, suc, ◌+◌, ◌^◌, ◌<◌, ◌≤◌, ◌==◌, ◌⊎◌, List, length, take, min, count_by, slice_get, Bool, true, false, nat_lt, nat_le, Option, Some, None, Result, Ok, Err, refl, sym, ap, ◌∙◌, subst, inl, inr, arith, nat_tests, slice_get_past}
use Rattle.mode_expression.specs.{ExprFault, TooLong, TooDeep, Syntax, TooLarge, places, Spells, IsTooDeepAt, IsShallow, IsReadAs, reading_of, IsParse, OutcomeExists, Form.Form}
use Rattle.mode_expression.proofs.ReadingLemmas.{reading_is_right}

module _ (text : List ℕ) where
  -- whether a place is too deep
  deep_or_not : (k : ℕ) → IsTooDeepAt text k ⊎ (IsTooDeepAt text k → ⊥)
  deep_or_not k = by_byte (slice_get text k) refl
    where
      opened : ℕ
      opened = count_by (λ c. c == 40) (take k text)

      by_count : (b : Bool) → nat_le (count_by (λ c. c == 41) (take k text) + 64) (count_by (λ c. c == 40) (take k text)) ≡ b
          → slice_get text k ≡ Some 40 → IsTooDeepAt text k ⊎ (IsTooDeepAt text k → ⊥)
      by_count true is here = inl (here, grind (arith, nat_tests))
      by_count false is here =
          let few : count_by (λ c. c == 40) (take k text) < count_by (λ c. c == 41) (take k text) + 64 = grind (arith, nat_tests) in
          inr (λ deep. omega (arith, deep.1))

      by_test : (c : ℕ) (b : Bool) → (c == 40) ≡ b → slice_get text k ≡ Some c → IsTooDeepAt text k ⊎ (IsTooDeepAt text k → ⊥)
      by_test c true is here =
          let same : c ≡ 40 = grind (arith, nat_tests) in
          by_count (nat_le (count_by (λ c. c == 41) (take k text) + 64) (count_by (λ c. c == 40) (take k text))) refl (here ∙ ap (λ x. Some x) same)
      by_test c false is here = inr (λ deep. let e : Some c ≡ Some 40 = sym here ∙ deep.0 in let same : c ≡ 40 = cc in grind (arith, nat_tests))

      by_byte : (o : Option ℕ) → slice_get text k ≡ o → IsTooDeepAt text k ⊎ (IsTooDeepAt text k → ⊥)
      by_byte None here = inr (λ deep. let e = sym here ∙ deep.0 in cc)
      by_byte (Some c) here = by_test c (c == 40) refl here

  abbrev FirstDeep : Type 0
  FirstDeep = (at : ℕ) × IsTooDeepAt text at × ((k : ℕ) → k < at → IsTooDeepAt text k → ⊥)

  -- the first place that is too deep, among the first n
  first_deep : (n : ℕ) → FirstDeep ⊎ ((k : ℕ) → k < n → IsTooDeepAt text k → ⊥)
  first_deep zero = inr (λ k lt. absurd (omega arith))
  first_deep (suc n) = by_front (first_deep n) (deep_or_not n)
    where
      by_front : FirstDeep ⊎ ((k : ℕ) → k < n → IsTooDeepAt text k → ⊥) → IsTooDeepAt text n ⊎ (IsTooDeepAt text n → ⊥)
          → FirstDeep ⊎ ((k : ℕ) → k < suc n → IsTooDeepAt text k → ⊥)
      by_front (inl found) here = inl found
      by_front (inr before) (inl deep) = inl (n, deep, before)
      by_front (inr before) (inr not_deep) = inr (λ k lt. by_place k lt (nat_lt k n) refl)
        where
          by_place : (k : ℕ) → k < suc n → (b : Bool) → nat_lt k n ≡ b → IsTooDeepAt text k → ⊥
          by_place k lt true is deep = before k (grind (arith, nat_tests)) deep
          by_place k lt false is deep = let same : k ≡ n = grind (arith, nat_tests) in not_deep (subst (λ j. IsTooDeepAt text j) same deep)

  shallow_of : ((k : ℕ) → k < length text → IsTooDeepAt text k → ⊥) → IsShallow text
  shallow_of none k deep = by_place (nat_lt k (length text)) refl
    where
      by_place : (b : Bool) → nat_lt k (length text) ≡ b → ⊥
      by_place true is = none k (grind (arith, nat_tests)) deep
      by_place false is = let past = slice_get_past text k (grind (arith, nat_tests)) in let e = sym past ∙ deep.0 in cc

  abbrev HasOutcome : Type 0
  HasOutcome = (outcome : Result Form ExprFault) × IsParse text outcome

  by_size : length text ≤ 4096 → IsShallow text → (form : Form) → Spells text form → (b : Bool) → nat_le (places form) 200 ≡ b → HasOutcome
  by_size short shallow form spells true is = (Ok form, record { short = short; shallow = shallow; spells = spells; small = grind (arith, nat_tests) })
  by_size short shallow form spells false is =
      let large : 200 < places form = grind (arith, nat_tests) in
      (Err (TooLarge (min (places form) (2 ^ 32))), (short, shallow, (form, spells, large, refl)))

  by_reading : length text ≤ 4096 → IsShallow text → (r : Result Form ℕ) → IsReadAs text r → HasOutcome
  by_reading short shallow (Ok form) spells = by_size short shallow form spells (nat_le (places form) 200) refl
  by_reading short shallow (Err at) wrong = (Err (Syntax at), (short, shallow, wrong))

  by_depth : length text ≤ 4096 → FirstDeep ⊎ ((k : ℕ) → k < length text → IsTooDeepAt text k → ⊥) → HasOutcome
  by_depth short (inl (at, deep, before)) = (Err (TooDeep at), (short, deep, before))
  by_depth short (inr none) = by_reading short (shallow_of none) (reading_of text) (reading_is_right text)

  by_length : (b : Bool) → nat_le (length text) 4096 ≡ b → HasOutcome
  by_length true is = by_depth (grind (arith, nat_tests)) (first_deep (length text))
  by_length false is = let long : 4096 < length text = grind (arith, nat_tests) in (Err (TooLong (length text)), (long, refl))

pub some_outcome : OutcomeExists
some_outcome text = by_length text (nat_le (length text) 4096) refl
