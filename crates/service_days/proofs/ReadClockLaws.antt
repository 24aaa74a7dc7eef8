-- The parts of a clock text, each of which is read back.
use Rattle.plan_base.proofs.Common.{◌≡◌, refl, sym, ap, ap₂, ◌∙◌, ℕ, suc, ◌+◌, ◌*◌, ◌/◌, ◌%◌, ◌^◌, ◌<◌, true, false, cond, ltb, eqb, List, [], ◌∷◌, ◌++◌, length, Some, arith, append_assoc, decimal, decimal_step_wide, ltb-true, ltb-false, lt-ltb, eqb-true, nat_tests}
use Rattle.plain_texts.specs.{fixed_decimal, fixed_at}
use Rattle.plain_texts.proofs.{FixedDecimal.fixed_decimal-zero, FixedDecimal.fixed_decimal-suc, FixedDecimal.fixed_again, Decimal.number_again, Decimal.first_digit}
use Rattle.service_days.specs.{hours_text, part_text, time_text, short_at, hundreds_at}

-- two and three digits, one by one
fixed_two : (n : ℕ) → fixed_decimal 2 n ≡ (48 + n / 10 % 10) ∷ (48 + n % 10) ∷ []
fixed_two n = fixed_decimal-suc 1 n ∙ ap (λ front. front ++ (48 + n % 10) ∷ []) (fixed_decimal-suc 0 (n / 10) ∙ ap (λ front. front ++ (48 + n / 10 % 10) ∷ []) (fixed_decimal-zero (n / 10 / 10)))

fixed_three : (n : ℕ) → fixed_decimal 3 n ≡ (48 + n / 10 / 10 % 10) ∷ (48 + n / 10 % 10) ∷ (48 + n % 10) ∷ []
fixed_three n = fixed_decimal-suc 2 n ∙ ap (λ front. front ++ (48 + n % 10) ∷ []) (fixed_two (n / 10))

-- the text of a time of less than a hundred hours
abbrev pub short_text : ℕ → List ℕ
short_text ms = fixed_decimal 2 (ms / 3600000) ++ part_text 58 2 (ms / 60000 % 60) ++ part_text 58 2 (ms / 1000 % 60) ++ part_text 46 3 (ms % 1000)

-- and of whole hundreds of hours
abbrev pub hundreds_text : ℕ → List ℕ
hundreds_text n = cond (eqb n 0) [] (decimal n)

hours_split : (hours : ℕ) → hours < 10 ^ 60 → hours_text hours ≡ hundreds_text (hours / 100) ++ fixed_decimal 2 (hours % 100)
hours_split hours small =
    elim (ltb hours 100) as (λ v. ltb hours 100 ≡ v → cond v (fixed_decimal 2 hours) (decimal hours) ≡ hundreds_text (hours / 100) ++ fixed_decimal 2 (hours % 100)) [
      | true ↦ λ e. let below = ltb-true hours 100 e in
          let none : hours / 100 ≡ 0 = omega (arith, below) in
          let same : hours % 100 ≡ hours = omega (arith, below) in
          rw (none, same) refl
      | false ↦ λ e. let above = ltb-false hours 100 e in
          let some : 0 < hours / 100 = omega (arith, above) in
          let first = decimal_step_wide hours (omega (arith, above)) (omega (arith, small)) in
          let second = decimal_step_wide (hours / 10) (omega (arith, above)) (omega (arith, small)) in
          let tens : hours / 10 / 10 ≡ hours / 100 = omega arith in
          let d1 : hours % 100 / 10 % 10 ≡ hours / 10 % 10 = omega arith in
          let d2 : hours % 100 % 10 ≡ hours % 10 = omega arith in
          first ∙ ap (λ front. front ++ (48 + hours % 10) ∷ []) (second ∙ ap (λ n. decimal n ++ (48 + hours / 10 % 10) ∷ []) tens)
          ∙ append_assoc (decimal (hours / 100)) ((48 + hours / 10 % 10) ∷ []) ((48 + hours % 10) ∷ [])
          ∙ sym (rw (nonzero (hours / 100) some, fixed_two (hours % 100), d1, d2) refl)
    ] refl
  where
    nonzero : (n : ℕ) → 0 < n → eqb n 0 ≡ false
    nonzero n some = grind (arith, nat_tests)

pub time_split : (ms : ℕ) → ms < 10 ^ 60 → time_text ms ≡ hundreds_text (ms / 360000000) ++ short_text (ms % 360000000)
time_split ms small =
    let x = ms % 360000000 in
    let whole : ms / 3600000 / 100 ≡ ms / 360000000 = omega arith in
    let hours : ms / 3600000 % 100 ≡ x / 3600000 = omega arith in
    let minutes : ms / 60000 % 60 ≡ x / 60000 % 60 = omega arith in
    let seconds : ms / 1000 % 60 ≡ x / 1000 % 60 = omega arith in
    let parts : ms % 1000 ≡ x % 1000 = omega arith in
    let front : hours_text (ms / 3600000) ≡ hundreds_text (ms / 360000000) ++ fixed_decimal 2 (x / 3600000) =
    hours_split (ms / 3600000) (omega (arith, small)) ∙ ap₂ (λ n h. hundreds_text n ++ fixed_decimal 2 h) whole hours in
    rw (front, minutes, seconds, parts)
    (ap (λ t. t ++ part_text 58 2 (x / 1000 % 60) ++ part_text 46 3 (x % 1000)) (append_assoc (hundreds_text (ms / 360000000)) (fixed_decimal 2 (x / 3600000)) (part_text 58 2 (x / 60000 % 60)))
    ∙ ap (λ t. t ++ part_text 46 3 (x % 1000)) (append_assoc (hundreds_text (ms / 360000000)) (fixed_decimal 2 (x / 3600000) ++ part_text 58 2 (x / 60000 % 60)) (part_text 58 2 (x / 1000 % 60)))
    ∙ append_assoc (hundreds_text (ms / 360000000)) (fixed_decimal 2 (x / 3600000) ++ part_text 58 2 (x / 60000 % 60) ++ part_text 58 2 (x / 1000 % 60)) (part_text 46 3 (x % 1000)))

-- the same, by hand of its twelve bytes
two_at : (n : ℕ) → n < 100 → fixed_at ((48 + n / 10 % 10) ∷ (48 + n % 10) ∷ []) ≡ Some n
two_at n small = rw (sym (fixed_two n)) (fixed_again 2 n (record { digits = omega (arith, small); within = omega (arith, small) }))

three_at : (n : ℕ) → n < 1000 → fixed_at ((48 + n / 10 / 10 % 10) ∷ (48 + n / 10 % 10) ∷ (48 + n % 10) ∷ []) ≡ Some n
three_at n small = rw (sym (fixed_three n)) (fixed_again 3 n (record { digits = omega (arith, small); within = omega (arith, small) }))

pub short_again : (ms : ℕ) → ms < 360000000 → short_at (short_text ms) ≡ Some ms
short_again ms small =
    let whole : ((ms / 3600000 * 60 + ms / 60000 % 60) * 60 + ms / 1000 % 60) * 1000 + ms % 1000 ≡ ms = omega arith in
    rw (fixed_two (ms / 3600000), fixed_two (ms / 60000 % 60), fixed_two (ms / 1000 % 60), fixed_three (ms % 1000))
    (rw (
      two_at (ms / 3600000) (omega (arith, small)),
      two_at (ms / 60000 % 60) (omega arith),
      two_at (ms / 1000 % 60) (omega arith),
      three_at (ms % 1000) (omega arith),
      lt-ltb (ms / 60000 % 60) 60 (omega arith),
      lt-ltb (ms / 1000 % 60) 60 (omega arith),
    ) (ap Some whole))

not_zero : (n : ℕ) → 0 < n → eqb n 0 ≡ false
not_zero n some = grind (arith, nat_tests)

decimal_some : (n : ℕ) → n < 10 ^ 30 → eqb (length (decimal n)) 0 ≡ false
decimal_some n small =
    let first = first_digit n small in
    rw first.3 (not_zero (suc (length first.1)) (omega arith))

pub hundreds_again : (n : ℕ) → n < 10 ^ 30 → hundreds_at (hundreds_text n) ≡ Some n
hundreds_again n small =
    elim (eqb n 0) as (λ v. eqb n 0 ≡ v → hundreds_at (cond v [] (decimal n)) ≡ Some n) [
      | true ↦ λ e. ap Some (sym (eqb-true n 0 e))
      | false ↦ λ e. rw (decimal_some n small, number_again (10 ^ 30) n (omega arith) small, e) refl
    ] refl
