-- The two laws of decimal numbers: what is read is spelled so, and what is spelled so is read.
use Rattle.std.proofs.Common.{◌≡◌, ℕ, List, [], ◌∷◌, ◌++◌, refl, ap, sym, ◌∙◌, subst, ◌<◌, ◌≤◌, ◌+◌, ◌*◌, ◌^◌, ◌/◌, ◌%◌, arith, cond, Some, None, fold, decimal, nat_eq, nat_le, nat_lt, ◌||◌}
use Rattle.std.proofs.lemmas.Option.{none-some, cond_some, option_and_then_some}
use Rattle.std.proofs.lemmas.Fmt.{decimal_digit, decimal_step_wide, decimal_by_steps_wide}
use Rattle.std.proofs.lemmas.Bool.Decides.{nat_tests}
use Rattle.plain_texts.specs.{IsReadBy, more, digit_of, number_step, digits_at, number_at}
use Rattle.plain_texts.proofs.{Digits.fold_takes, Digits.fold_first, Digits.fold_push, Digits.digit_takes, Digits.digit_again, Reading.read_by_laws}

-- what a step has taken
record Stepped (below v b w : ℕ) : Type 0 where
  digit : ℕ
  some : 0 < v
  within : v < below
  small : digit < 10
  byte : b ≡ 48 + digit
  value : w ≡ v * 10 + digit

step_cases : (below v w d : ℕ) → cond (nat_eq v 0 || nat_le below v) None (Some (v * 10 + d)) ≡ Some w → (0 < v) × (v < below) × (w ≡ v * 10 + d)
step_cases below v w d e = grind (arith, nat_tests)

step_takes : (below v b w : ℕ) → number_step below v b ≡ Some w → Stepped below v b w
step_takes below v b w e = option_and_then_some _ (digit_of b) w e (λ d is e.
    let byte = digit_takes b d is in
    let cases = step_cases below v w d e in
    record { digit = d; some = cases.0; within = cases.1; small = byte.1; byte = byte.0; value = cases.2 })

step_again : (below v d : ℕ) → 0 < v → v < below → d < 10 → number_step below v (48 + d) ≡ Some (v * 10 + d)
step_again below v d some within small = rw (digit_again d small) (grind (arith, nat_tests))

decimal_more : (v d : ℕ) → 0 < v → v < 10 ^ 31 → d < 10 → decimal v ++ (48 + d) ∷ [] ≡ decimal (v * 10 + d)
decimal_more v d some small q =
    let front : (v * 10 + d) / 10 ≡ v = omega arith in
    let last : (v * 10 + d) % 10 ≡ d = omega arith in
    sym (decimal_step_wide (v * 10 + d) (omega arith) (omega arith) ∙ (rw (front, last) refl))

keeps_decimal : (below v b w : ℕ) (front : List ℕ) → below ≤ 10 ^ 30 → number_step below v b ≡ Some w → (front ≡ decimal v) × (v < 10 ^ 31) → (front ++ b ∷ [] ≡ decimal w) × (w < 10 ^ 31)
keeps_decimal below v b w front small e h =
    let s = step_takes below v b w e in
    let longer = decimal_more v s.digit s.some h.1 s.small in
    let same : front ++ b ∷ [] ≡ decimal v ++ (48 + s.digit) ∷ [] = cc (h.0, s.byte) in
    (same ∙ longer ∙ ap decimal (sym s.value), omega arith)

digits_takes : (below : ℕ) (t : List ℕ) (n : ℕ) → below ≤ 10 ^ 30 → digits_at below t ≡ Some n → t ≡ decimal n
digits_takes below [] n small e = absurd (none-some n e)
digits_takes below (b ∷ bs) n small e =
    let first = fold_first (number_step below) (digit_of b) bs n e in
    let byte = digit_takes b first.0 first.1 in
    let one : b ∷ [] ≡ decimal first.0 = ap (λ x. x ∷ []) byte.0 ∙ sym (decimal_digit first.0 byte.1) in
    (fold_takes (number_step below) (λ v front. (front ≡ decimal v) × (v < 10 ^ 31)) (λ v b w front. keeps_decimal below v b w front small) bs (b ∷ []) first.0 n (one, omega arith) (subst (λ o. fold (more (number_step below)) o bs ≡ Some n) first.1 e)).0

pub number_takes : (t : List ℕ) (below n : ℕ) → below ≤ 10 ^ 30 → number_at below t ≡ Some n → (n < below) × (t ≡ decimal n)
unfolding number_at
number_takes t below n small e = option_and_then_some _ (digits_at below t) n e (λ x is e.
    let fits = cond_some (nat_lt x below) x n e in
    let lt : x < below = grind (arith, nat_tests, fits.0) in
    (rw (sym fits.1) lt, rw (sym fits.1) (digits_takes below t x small is)))

digits_push : (below : ℕ) (ds : List ℕ) (v b : ℕ) → digits_at below ds ≡ Some v → digits_at below (ds ++ b ∷ []) ≡ number_step below v b
digits_push below [] v b e = absurd (none-some v e)
digits_push below (d ∷ ds) v b e = fold_push (number_step below) (digit_of d) ds v b e

digits_again : (below n : ℕ) → below ≤ 10 ^ 30 → n < below → digits_at below (decimal n) ≡ Some n
digits_again below n small h = decimal_by_steps_wide (λ n ds. n < below → digits_at below ds ≡ Some n) (λ n h _. digit_again n h) more_digits n (omega arith) h
  where
    more_digits : (n : ℕ) (ds : List ℕ) → 10 ≤ n → (n / 10 < below → digits_at below ds ≡ Some (n / 10)) → n < below → digits_at below (ds ++ (48 + n % 10) ∷ []) ≡ Some n
    more_digits n ds many front fits =
        let whole : n / 10 * 10 + n % 10 ≡ n = omega arith in
        digits_push below ds (n / 10) (48 + n % 10) (front (omega arith)) ∙ step_again below (n / 10) (n % 10) (omega arith) (omega arith) (omega arith) ∙ ap Some whole

pub number_again : (below n : ℕ) → below ≤ 10 ^ 30 → n < below → number_at below (decimal n) ≡ Some n
unfolding number_at
number_again below n small h = rw (digits_again below n small h) (grind (arith, nat_tests))

-- The reader of numbers is exact.
pub number_reads : (t : List ℕ) (below : ℕ) → below ≤ 10 ^ 30 → IsReadBy decimal (λ n. n < below) t (number_at below t)
number_reads t below small = read_by_laws decimal (λ n. n < below) t (number_at below t) (λ n e. number_takes t below n small e) (λ n h e. ap (number_at below) e ∙ number_again below n small h)

-- A number has at least one digit, and begins with one.
pub first_digit : (n : ℕ) → n < 10 ^ 30 → (d : ℕ) × (bs : List ℕ) × (d < 10) × (decimal n ≡ (48 + d) ∷ bs)
first_digit n small = at_front (decimal n) refl (digits_again (10 ^ 30) n (omega arith) small)
  where
    at_front : (t : List ℕ) → decimal n ≡ t → digits_at (10 ^ 30) t ≡ Some n → (d : ℕ) × (bs : List ℕ) × (d < 10) × (decimal n ≡ (48 + d) ∷ bs)
    at_front [] is e = absurd (none-some n e)
    at_front (b ∷ bs) is e =
        let first = fold_first (number_step (10 ^ 30)) (digit_of b) bs n e in
        let byte = digit_takes b first.0 first.1 in
        (first.0, bs, byte.1, is ∙ ap (λ x. x ∷ bs) byte.0)
