-- The two laws of fields of fixed width.
use Rattle.std.proofs.Common.{◌≡◌, ℕ, zero, suc, List, [], ◌∷◌, ◌++◌, length, refl, ap, sym, ◌∙◌, subst, ◌<◌, ◌+◌, ◌-◌, ◌*◌, ◌^◌, ◌/◌, ◌%◌, arith, length-append, append_assoc, Some, fold, nat_lt, append-nil}
use Rattle.std.proofs.Math.Nat.{pow-succ'}
use Rattle.std.proofs.lemmas.Option.{cond_some, option_and_then_some}
use Rattle.std.proofs.lemmas.Bool.Decides.{nat_tests}
use Rattle.plain_texts.specs.{IsReadBy, more, digit_of, IsFixed, fixed_decimal, fixed_step, fixed_at}
use Rattle.plain_texts.proofs.{Digits.fold_takes, Digits.fold_push, Digits.digit_takes, Digits.digit_again, Reading.read_by_laws}

pub fixed_decimal-zero : (n : ℕ) → fixed_decimal 0 n ≡ []
unfolding fixed_decimal
fixed_decimal-zero n = refl

pub fixed_decimal-suc : (width n : ℕ) → fixed_decimal (suc width) n ≡ fixed_decimal width (n / 10) ++ (48 + n % 10) ∷ []
unfolding fixed_decimal
fixed_decimal-suc width n = refl

-- The last digit comes last.
pub fixed_decimal_last : (width n : ℕ) → 0 < width → fixed_decimal width n ≡ fixed_decimal (width - 1) (n / 10) ++ (48 + n % 10) ∷ []
fixed_decimal_last zero n some = absurd (omega arith)
fixed_decimal_last (suc width) n some = let one : suc width - 1 ≡ width = omega arith in rw one (fixed_decimal-suc width n)

pub length-fixed_decimal : (width n : ℕ) → length (fixed_decimal width n) ≡ width
length-fixed_decimal zero n = ap length (fixed_decimal-zero n)
length-fixed_decimal (suc width) n =
    let cut = length-append (fixed_decimal width (n / 10)) ((48 + n % 10) ∷ []) in
    ap length (fixed_decimal-suc width n) ∙ omega (arith, cut, length-fixed_decimal width (n / 10))

ten_times : (width : ℕ) → 10 ^ suc width ≡ 10 * 10 ^ width
ten_times width = pow-succ' 10 width

record SoFar (v : ℕ) (front : List ℕ) : Type 0 where
  is : front ≡ fixed_decimal (length front) v
  digits : v < 10 ^ length front
  within : v < 10 ^ 9

keeps : (v b w : ℕ) (front : List ℕ) → fixed_step v b ≡ Some w → SoFar v front → SoFar w (front ++ b ∷ [])
keeps v b w front e h = option_and_then_some _ (digit_of b) w e (λ d is e.
    let byte = digit_takes b d is in
    let fits = cond_some (nat_lt v (10 ^ 8)) (v * 10 + d) w e in
    let small : v < 10 ^ 8 = grind (arith, nat_tests, fits.0) in
    let longer : length (front ++ b ∷ []) ≡ suc (length front) = omega (arith, length-append front (b ∷ [])) in
    let before : w / 10 ≡ v = omega (arith, fits.1, byte.1) in
    let last : 48 + w % 10 ≡ b = omega (arith, fits.1, byte.0, byte.1) in
    let ten = ten_times (length front) in
    let bound : w < 10 ^ suc (length front) = omega (arith, fits.1, byte.1, h.digits, ten) in
    record { is = ap (λ x. x ++ b ∷ []) h.is ∙ sym (rw (longer, fixed_decimal-suc, before, last) refl); digits = subst (λ k. w < 10 ^ k) (sym longer) bound; within = omega (arith, fits.1, byte.1) })

pub fixed_takes : (t : List ℕ) (n : ℕ) → fixed_at t ≡ Some n → IsFixed (length t) n × (t ≡ fixed_decimal (length t) n)
unfolding fixed_at
fixed_takes t n e =
    let read = fold_takes fixed_step SoFar keeps t [] 0 n (record { is = sym (fixed_decimal-zero 0); digits = omega arith; within = omega arith }) e in
    (record { digits = read.digits; within = read.within }, read.is)

step_again : (v d : ℕ) → v < 10 ^ 8 → d < 10 → fixed_step v (48 + d) ≡ Some (v * 10 + d)
step_again v d small fits = rw (digit_again d fits) (grind (arith, nat_tests))

pub fixed_again : (width n : ℕ) → IsFixed width n → fixed_at (fixed_decimal width n) ≡ Some n
unfolding fixed_at
fixed_again zero n h = let none : n ≡ 0 = omega (arith, h.digits) in ap (λ t. fold (more fixed_step) (Some 0) t) (fixed_decimal-zero n) ∙ ap Some (sym none)
fixed_again (suc width) n h =
    let whole : n / 10 * 10 + n % 10 ≡ n = omega arith in
    let ten = ten_times width in
    let front : n / 10 < 10 ^ width = omega (arith, h.digits, ten) in
    let before = fixed_again width (n / 10) (record { digits = front; within = omega (arith, h.within) }) in
    ap (λ t. fold (more fixed_step) (Some 0) t) (fixed_decimal-suc width n) ∙ fold_push fixed_step (Some 0) (fixed_decimal width (n / 10)) (n / 10) (48 + n % 10) before ∙ step_again (n / 10) (n % 10) (omega (arith, h.within)) (omega arith) ∙ ap Some whole

-- The reader of fields is exact.
pub fixed_reads : (t : List ℕ) → IsReadBy (fixed_decimal (length t)) (IsFixed (length t)) t (fixed_at t)
fixed_reads t = read_by_laws (fixed_decimal (length t)) (IsFixed (length t)) t (fixed_at t) (λ n e. fixed_takes t n e) (λ n h e. ap fixed_at e ∙ fixed_again (length t) n h)

-- how a field is written: nothing where it has no width, and else the last digit at the end
pub fixed_none : (old : List ℕ) (width n : ℕ) → width ≡ 0 → old ≡ old ++ fixed_decimal width n
fixed_none old width n e = sym (ap (λ w. old ++ fixed_decimal w n) e ∙ ap (λ t. old ++ t) (fixed_decimal-zero n) ∙ append-nil old)

pub fixed_more : (old before new : List ℕ) (width n : ℕ) → 0 < width → before ≡ old ++ fixed_decimal (width - 1) (n / 10) → new ≡ before ++ (48 + n % 10) ∷ [] → new ≡ old ++ fixed_decimal width n
fixed_more old before new width n some front last = last ∙ ap (λ t. t ++ (48 + n % 10) ∷ []) front ∙ append_assoc old (fixed_decimal (width - 1) (n / 10)) ((48 + n % 10) ∷ []) ∙ ap (λ t. old ++ t) (sym (fixed_decimal_last width n some))
