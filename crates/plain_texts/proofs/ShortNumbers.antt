-- Where a number has few digits, it is read without a bound, and the bound is tested once behind the last digit.
use Rattle.std.proofs.Common.{◌≡◌, ℕ, zero, suc, List, [], ◌∷◌, refl, ap, sym, ◌∙◌, ◌<◌, ◌≤◌, ◌+◌, ◌*◌, ◌^◌, arith, Bool, true, false, cond, length, take, get_or, ◌≢◌, Option, Some, None, fold, nat_eq, nat_le, nat_lt, ◌||◌, option_and_then, option_map, slice_index}
use Rattle.std.proofs.Math.Nat.{pow-le-pow_right}
use Rattle.std.proofs.lemmas.Fmt.{length-decimal-le_wide}
use Rattle.std.proofs.lemmas.Grind.{pow_more}
use Rattle.std.proofs.lemmas.List.Folds.{fold_stuck}
use Rattle.std.proofs.lemmas.Option.{none-some, same_Some}
use Rattle.std.proofs.lemmas.Bool.Decides.{nat_tests}
use Rattle.plain_texts.specs.{more, digit_of, number_step, number_at, value_step, value_at}
use Rattle.plain_texts.proofs.{Digits.fold_none, Digits.fold_takes, Digits.digit_takes, Decimal.number_takes}

-- A byte that is no digit ends the reading.
pub value_stops : (ds : List ℕ) (i v : ℕ) → i < length ds → value_at (take i ds) ≡ Some v → digit_of (get_or ds i 0) ≡ None → None ≡ value_at ds
unfolding value_at
value_stops ds i v h e stop = fold_stuck (more value_step) None (λ x. refl) (Some 0) ds i 0 h (rw (e, stop) refl)

-- With a digit more, 18 digits are still enough.
pub one_more_fits : (i v d : ℕ) → i < 18 → v < 10 ^ i → d < 10 → v * 10 + d < 10 ^ 18
one_more_fits i v d few h small = omega (arith, pow_more 10 i, pow-le-pow_right {n = 10} (omega arith) {i = i + 1} {j = 18} (omega arith))

abbrev within : ℕ → ℕ → Option ℕ
within below n = cond (nat_lt n below) (Some n) None

-- Digits only make a number greater.
grows : (bs : List ℕ) (v n : ℕ) → fold (more value_step) (Some v) bs ≡ Some n → v ≤ n
grows bs v n e = fold_takes value_step (λ w _. v ≤ w) keeps bs [] v n (omega arith) e
  where
    keeps : (u b w : ℕ) (front : List ℕ) → value_step u b ≡ Some w → v ≤ u → v ≤ w
    keeps u b w front e h = at_digit (digit_of b) e
      where
        at_digit : (o : Option ℕ) → option_map (λ d. u * 10 + d) o ≡ Some w → v ≤ w
        at_digit None e = absurd (none-some w e)
        at_digit (Some d) e = omega (arith, same_Some (u * 10 + d) w e)

past : (below : ℕ) (bs : List ℕ) (v : ℕ) → below ≤ v → option_and_then (within below) (fold (more value_step) (Some v) bs) ≡ None
past below bs v h = at_value (fold (more value_step) (Some v) bs) refl
  where
    at_value : (o : Option ℕ) → fold (more value_step) (Some v) bs ≡ o → option_and_then (within below) o ≡ None
    at_value None e = refl
    at_value (Some n) e = let greater = grows bs v n e in grind (arith, nat_tests)

-- what is read of the bytes behind a first value, within the bound at each digit and at the end alone
abbrev SameEnd : ℕ → List ℕ → Option ℕ → Option ℕ → Type 0
SameEnd below bs bounded free = option_and_then (within below) (fold (more (number_step below)) bounded bs) ≡ option_and_then (within below) (fold (more value_step) free bs)

one_digit : (below : ℕ) (bs : List ℕ) (v d : ℕ) → 0 < v → SameEnd below bs (Some (v * 10 + d)) (Some (v * 10 + d)) → SameEnd below bs (cond (nat_eq v 0 || nat_le below v) None (Some (v * 10 + d))) (Some (v * 10 + d))
one_digit below bs v d some same = by_bound (nat_le below v) refl
  where
    by_bound : (t : Bool) → nat_le below v ≡ t → SameEnd below bs (cond (nat_eq v 0 || nat_le below v) None (Some (v * 10 + d))) (Some (v * 10 + d))
    by_bound true e =
        let grown : below ≤ v * 10 + d = grind (arith, nat_tests) in
        let test : (nat_eq v 0 || nat_le below v) ≡ true = grind (arith, nat_tests) in
        rw test (ap (option_and_then (within below)) (fold_none (number_step below) bs) ∙ sym (past below bs (v * 10 + d) grown))
    by_bound false e =
        let test : (nat_eq v 0 || nat_le below v) ≡ false = grind (arith, nat_tests) in
        rw test same

-- Behind a first digit other than 0, a bound at each digit is the bound at the end.
same_behind : (below : ℕ) (bs : List ℕ) (v : ℕ) → 0 < v → SameEnd below bs (Some v) (Some v)
same_behind below [] v some = refl
same_behind below (b ∷ bs) v some = by_digit (digit_of b) refl (λ d. same_behind below bs (v * 10 + d) (omega arith))
  where
    by_digit : (o : Option ℕ) → digit_of b ≡ o → ((d : ℕ) → SameEnd below bs (Some (v * 10 + d)) (Some (v * 10 + d))) → SameEnd below bs (number_step below v b) (value_step v b)
    by_digit None e same = rw e (ap (option_and_then (within below)) (fold_none (number_step below) bs ∙ sym (fold_none value_step bs)))
    by_digit (Some d) e same = rw e (one_digit below bs v d some (same d))

-- The value of the digits, where it is below the bound: a first zero has no digit behind it.
pub number_by_value : (below : ℕ) (t : List ℕ) → 0 < length t → (1 < length t → slice_index t 0 ≢ 48) → number_at below t ≡ option_and_then (within below) (value_at t)
unfolding number_at value_at
number_by_value below [] some first = absurd (omega arith)
number_by_value below (b ∷ bs) some first = by_digit (digit_of b) refl
  where
    one : (d : ℕ) → digit_of b ≡ Some d → (rest : List ℕ) → bs ≡ rest → SameEnd below rest (Some d) (Some d)
    one d e [] is = refl
    one zero e (c ∷ cs) is = absurd (first (omega (arith, ap length is)) (digit_takes b 0 e).0)
    one (suc d) e (c ∷ cs) is = same_behind below (c ∷ cs) (suc d) (omega arith)

    by_digit : (o : Option ℕ) → digit_of b ≡ o → SameEnd below bs (digit_of b) (value_step 0 b)
    by_digit None e = rw e (ap (option_and_then (within below)) (fold_none (number_step below) bs ∙ sym (fold_none value_step bs)))
    by_digit (Some d) e = let same : 0 + d ≡ d = omega arith in rw (e, same) (one d e bs refl)

pub number_is : (below : ℕ) (t : List ℕ) (n : ℕ) → 0 < length t → (1 < length t → slice_index t 0 ≢ 48) → value_at t ≡ Some n → n < below → Some n ≡ number_at below t
number_is below t n some first e small = sym (number_by_value below t some first ∙ (rw e (grind (arith, nat_tests))))

-- Where no digits are read, or too many for the bound, there is no number.
pub number_none : (below : ℕ) (t : List ℕ) → 0 < length t → (1 < length t → slice_index t 0 ≢ 48) → value_at t ≡ None → None ≡ number_at below t
number_none below t some first e = sym (number_by_value below t some first ∙ ap (option_and_then (within below)) e)

pub number_past : (below : ℕ) (t : List ℕ) (n : ℕ) → 0 < length t → (1 < length t → slice_index t 0 ≢ 48) → value_at t ≡ Some n → below ≤ n → None ≡ number_at below t
number_past below t n some first e past = sym (number_by_value below t some first ∙ (rw e (grind (arith, nat_tests))))

pub number_empty : (below : ℕ) (t : List ℕ) → length t ≡ 0 → None ≡ number_at below t
unfolding number_at
number_empty below [] e = refl
number_empty below (b ∷ bs) e = absurd (omega arith)

-- A number below 10 ^ 18 has at most 18 digits.
pub number_long : (below : ℕ) (t : List ℕ) → below ≤ 10 ^ 18 → 18 < length t → None ≡ number_at below t
number_long below t small long = at_number (number_at below t) refl
  where
    at_number : (o : Option ℕ) → number_at below t ≡ o → None ≡ o
    at_number None e = refl
    at_number (Some n) e =
        let read = number_takes t below n (omega arith) e in
        let short = length-decimal-le_wide 18 n (omega arith) (omega (arith, read.0)) (omega (arith, read.0)) in
        absurd (omega (arith, short, ap length read.1))

pub number_padded : (below : ℕ) (t : List ℕ) → 1 < length t → slice_index t 0 ≡ 48 → None ≡ number_at below t
unfolding number_at
number_padded below [] many first = absurd (omega arith)
number_padded below (b ∷ []) many first = absurd (omega arith)
number_padded below (b ∷ c ∷ cs) many first = rw first (by_digit (digit_of c))
  where
    by_digit : (o : Option ℕ) → None ≡ option_and_then (within below) (fold (more (number_step below)) (option_and_then (λ d. cond (nat_eq 0 0 || nat_le below 0) None (Some (0 * 10 + d))) o) cs)
    by_digit None = ap (option_and_then (within below)) (sym (fold_none (number_step below) cs))
    by_digit (Some d) = ap (option_and_then (within below)) (sym (fold_none (number_step below) cs))
