-- The two laws of hexadecimal numbers.
use Rattle.std.proofs.Common.{◌≡◌, ℕ, zero, suc, List, [], ◌∷◌, ◌++◌, map, refl, ap, sym, ◌∙◌, subst, ◌<◌, ◌≤◌, ◌+◌, ◌*◌, ◌^◌, ◌/◌, ◌%◌, arith, ◌⊎◌, inl, inr, append_assoc, Some, fold, nat_lt, append-nil}
use Rattle.std.specs.Int.Digits.{digits_of}
use Rattle.std.proofs.lemmas.Int.Digits.{digits_of_step}
use Rattle.std.proofs.lemmas.List.{map-append}
use Rattle.std.proofs.lemmas.Option.{none-some, cond_some, option_and_then_some}
use Rattle.std.proofs.lemmas.Bool.{cases_lt}
use Rattle.std.proofs.lemmas.Bool.Decides.{nat_tests}
use Rattle.plain_texts.specs.{IsReadBy, more, IsHexadecimal, glyph, hexadecimal, hexadecimal_digit_of, hexadecimal_step, first_hexadecimal, hexadecimal_at}
use Rattle.plain_texts.proofs.{Digits.fold_takes, Digits.fold_first, Digits.fold_push, Reading.read_by_laws}

-- The last digit comes last. 0 has no digits.
pub hexadecimal-zero : hexadecimal 0 ≡ []
unfolding hexadecimal
hexadecimal-zero = refl

pub hexadecimal_last : (n : ℕ) → 0 < n → hexadecimal n ≡ hexadecimal (n / 16) ++ glyph (n % 16) ∷ []
unfolding hexadecimal
hexadecimal_last n some = ap (map glyph) (digits_of_step 16 n (omega arith) some) ∙ map-append glyph (digits_of 16 (n / 16)) (n % 16 ∷ [])

hexadecimal_more : (v d : ℕ) → 0 < v * 16 + d → d < 16 → hexadecimal (v * 16 + d) ≡ hexadecimal v ++ glyph d ∷ []
hexadecimal_more v d some small =
    let front : (v * 16 + d) / 16 ≡ v = omega arith in
    let last : (v * 16 + d) % 16 ≡ d = omega arith in
    hexadecimal_last (v * 16 + d) some ∙ rw (front, last) refl

hexadecimal_digit_takes : (b d : ℕ) → hexadecimal_digit_of b ≡ Some d → (b ≡ glyph d) × (d < 16)
hexadecimal_digit_takes b d e = grind (arith, nat_tests)

hexadecimal_digit_again : (d : ℕ) → d < 16 → hexadecimal_digit_of (glyph d) ≡ Some d
hexadecimal_digit_again d small = grind (arith, nat_tests)

-- the bytes so far are the spelling of the value so far
record SoFar (v : ℕ) (front : List ℕ) : Type 0 where
  is : front ≡ hexadecimal v
  some : 0 < v
  within : v < 2 ^ 128

keeps : (v b w : ℕ) (front : List ℕ) → hexadecimal_step v b ≡ Some w → SoFar v front → SoFar w (front ++ b ∷ [])
keeps v b w front e h = option_and_then_some _ (hexadecimal_digit_of b) w e (λ d is e.
    let byte = hexadecimal_digit_takes b d is in
    let fits = cond_some (nat_lt v (2 ^ 124)) (v * 16 + d) w e in
    let small : v < 2 ^ 124 = grind (arith, nat_tests, fits.0) in
    let longer = hexadecimal_more v d (omega (arith, h.some)) byte.1 in
    let same : front ++ b ∷ [] ≡ hexadecimal v ++ glyph d ∷ [] = cc (h.is, byte.0) in
    record { is = same ∙ sym longer ∙ ap hexadecimal fits.1; some = omega (arith, h.some, fits.1); within = omega (arith, fits.1, byte.1) })

first_cases : (b v : ℕ) → first_hexadecimal b ≡ Some v → (b ≡ glyph v) × (0 < v) × (v < 16)
first_cases b v e = grind (arith, nat_tests)

first_again : (n : ℕ) → 0 < n → n < 16 → first_hexadecimal (glyph n) ≡ Some n
first_again n some small = grind (arith, nat_tests)

first_takes : (b v : ℕ) → first_hexadecimal b ≡ Some v → SoFar v (b ∷ [])
first_takes b v e =
    let cases = first_cases b v e in
    let front : v / 16 ≡ 0 = omega (arith, cases.2) in
    let last : v % 16 ≡ v = omega (arith, cases.2) in
    let is : hexadecimal v ≡ glyph v ∷ [] = hexadecimal_last v cases.1 ∙ rw (front, last, hexadecimal-zero) refl in
    record { is = ap (λ x. x ∷ []) cases.0 ∙ sym is; some = cases.1; within = omega (arith, cases.2) }

pub hexadecimal_takes : (t : List ℕ) (n : ℕ) → hexadecimal_at t ≡ Some n → IsHexadecimal n × (t ≡ hexadecimal n)
unfolding hexadecimal_at
hexadecimal_takes [] n e = absurd (none-some n e)
hexadecimal_takes (b ∷ bs) n e =
    let first = fold_first hexadecimal_step (first_hexadecimal b) bs n e in
    let read = fold_takes hexadecimal_step SoFar keeps bs (b ∷ []) first.0 n (first_takes b first.0 first.1) (subst (λ o. fold (more hexadecimal_step) o bs ≡ Some n) first.1 e) in
    (record { some = read.some; within = read.within }, read.is)

-- what holds of numbers of one digit, and goes on with each digit more
pub hexadecimal_by_steps : (P : ℕ → List ℕ → Type 0) → ((n : ℕ) → 0 < n → n < 16 → P n (glyph n ∷ [])) → ((n : ℕ) (ds : List ℕ) → 16 ≤ n → P (n / 16) ds → P n (ds ++ glyph (n % 16) ∷ [])) → (bound n : ℕ) → 0 < n → n ≤ bound → P n (hexadecimal n)
hexadecimal_by_steps P one longer zero n some small = absurd (omega arith)
hexadecimal_by_steps P one longer (suc bound) n some small = by_size (cases_lt n 16) (λ q r. hexadecimal_by_steps P one longer bound (n / 16) q r)
  where
    by_size : (n < 16) ⊎ (16 ≤ n) → (0 < n / 16 → n / 16 ≤ bound → P (n / 16) (hexadecimal (n / 16))) → P n (hexadecimal n)
    by_size (inl few) others =
        let whole : n % 16 ≡ n = omega arith in
        let none : n / 16 ≡ 0 = omega arith in
        let is : hexadecimal n ≡ glyph n ∷ [] = hexadecimal_last n some ∙ rw (none, whole, hexadecimal-zero) refl in
        subst (λ t. P n t) (sym is) (one n some few)
    by_size (inr many) others = subst (λ t. P n t) (sym (hexadecimal_last n some)) (longer n (hexadecimal (n / 16)) many (others (omega arith) (omega arith)))

hexadecimal_push : (ds : List ℕ) (v b : ℕ) → hexadecimal_at ds ≡ Some v → hexadecimal_at (ds ++ b ∷ []) ≡ hexadecimal_step v b
unfolding hexadecimal_at
hexadecimal_push [] v b e = absurd (none-some v e)
hexadecimal_push (d ∷ ds) v b e = fold_push hexadecimal_step (first_hexadecimal d) ds v b e

step_again : (v d : ℕ) → v < 2 ^ 124 → d < 16 → hexadecimal_step v (glyph d) ≡ Some (v * 16 + d)
step_again v d small fits = rw (hexadecimal_digit_again d fits) (grind (arith, nat_tests))

one_again : (n : ℕ) → 0 < n → n < 16 → hexadecimal_at (glyph n ∷ []) ≡ Some n
unfolding hexadecimal_at
one_again n some small = first_again n some small

pub hexadecimal_again : (n : ℕ) → IsHexadecimal n → hexadecimal_at (hexadecimal n) ≡ Some n
hexadecimal_again n h = hexadecimal_by_steps (λ n ds. n < 2 ^ 128 → hexadecimal_at ds ≡ Some n) (λ n some small _. one_again n some small) longer n n h.some (omega arith) h.within
  where
    longer : (n : ℕ) (ds : List ℕ) → 16 ≤ n → (n / 16 < 2 ^ 128 → hexadecimal_at ds ≡ Some (n / 16)) → n < 2 ^ 128 → hexadecimal_at (ds ++ glyph (n % 16) ∷ []) ≡ Some n
    longer n ds many front fits =
        let whole : n / 16 * 16 + n % 16 ≡ n = omega arith in
        hexadecimal_push ds (n / 16) (glyph (n % 16)) (front (omega arith)) ∙ step_again (n / 16) (n % 16) (omega arith) (omega arith) ∙ ap Some whole

-- The reader of hexadecimal numbers is exact.
pub hexadecimal_reads : (t : List ℕ) → IsReadBy hexadecimal IsHexadecimal t (hexadecimal_at t)
hexadecimal_reads t = read_by_laws hexadecimal IsHexadecimal t (hexadecimal_at t) (λ n e. hexadecimal_takes t n e) (λ n h e. ap hexadecimal_at e ∙ hexadecimal_again n h)

-- how a number is written: nothing for 0, and else the last digit at the end
pub hexadecimal_none : (old : List ℕ) (n : ℕ) → n ≡ 0 → old ≡ old ++ hexadecimal n
hexadecimal_none old n e = sym (ap (λ n. old ++ hexadecimal n) e ∙ ap (λ t. old ++ t) hexadecimal-zero ∙ append-nil old)

pub hexadecimal_longer : (old before new : List ℕ) (n : ℕ) → 0 < n → before ≡ old ++ hexadecimal (n / 16) → new ≡ before ++ glyph (n % 16) ∷ [] → new ≡ old ++ hexadecimal n
hexadecimal_longer old before new n some front last = last ∙ ap (λ t. t ++ glyph (n % 16) ∷ []) front ∙ append_assoc old (hexadecimal (n / 16)) (glyph (n % 16) ∷ []) ∙ ap (λ t. old ++ t) (sym (hexadecimal_last n some))
