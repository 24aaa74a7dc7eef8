-- The positions of a set of bits.
use Rattle.plan_base.proofs.Common.{◌≡◌, ◌≢◌, ℕ, zero, suc, ◌-◌, ◌*◌, ◌%◌, ◌^◌, ◌<◌, ◌≤◌, max, Bool, true, false, ◌||◌, ◌==◌, nat_lt, if◌then◌else◌, bit_or, refl, ap, ◌∙◌, arith, bit_at, nat_tests, pow_below, bit_at_or, bit_at-lt, bit_at-zero}
use Rattle.std.proofs.Common.{mod-eq_of_lt}
use Rattle.std.proofs.lemmas.Nat.Bits.{bit_at-pow_same, bit_at-pow_other}
use Rattle.automaton.specs.{declared.position_set.PositionSet.PositionSet, inside.has}

either_bit : (x y : ℕ) → x < 2 → y < 2 → (max x y == 1) ≡ ((x == 1) || (y == 1))
either_bit zero zero p q = refl
either_bit zero (suc zero) p q = refl
either_bit (suc zero) zero p q = refl
either_bit (suc zero) (suc zero) p q = refl
either_bit (suc (suc x)) y p q = absurd (omega arith)
either_bit zero (suc (suc y)) p q = absurd (omega arith)
either_bit (suc zero) (suc (suc y)) p q = absurd (omega arith)

or_bit : (a b i : ℕ) → (bit_at (bit_or a b) i == 1) ≡ ((bit_at a i == 1) || (bit_at b i == 1))
or_bit a b i = ap (λ n. n == 1) (bit_at_or a b i) ∙ either_bit (bit_at a i) (bit_at b i) (bit_at-lt a i) (bit_at-lt b i)

if_same : (b : Bool) (x y u v : Bool) → x ≡ u → y ≡ v → (if b then x else y) ≡ (if b then u else v)
if_same true x y u v p q = p
if_same false x y u v p q = q

if_or : (b : Bool) (x y u v : Bool) → (if b then x || u else (y || v)) ≡ ((if b then x else y) || (if b then u else v))
if_or true x y u v = refl
if_or false x y u v = refl

pub has-or : (a b : PositionSet) → has (record { low = bit_or a.low b.low; high = bit_or a.high b.high }) ≡ (λ q. has a q || has b q)
has-or a b = λ i q. at q i
  where
    at : (q : ℕ) → has (record { low = bit_or a.low b.low; high = bit_or a.high b.high }) q ≡ (has a q || has b q)
    at q =
        if_same (nat_lt q 128) _ _ _ _ (or_bit a.low b.low q) (or_bit a.high b.high (q - 128))
        ∙ if_or (nat_lt q 128) (bit_at a.low q == 1) (bit_at a.high (q - 128) == 1) (bit_at b.low q == 1) (bit_at b.high (q - 128) == 1)

pow_bit : (p q : ℕ) → (bit_at (2 ^ p) q == 1) ≡ (q == p)
pow_bit p q = by_test (q == p) refl
  where
    by_test : (b : Bool) → (q == p) ≡ b → (bit_at (2 ^ p) q == 1) ≡ b
    by_test true is = let same : q ≡ p = grind (arith, nat_tests) in ap (λ k. bit_at (2 ^ p) k == 1) same ∙ ap (λ n. n == 1) (bit_at-pow_same p)
    by_test false is = let other : q ≢ p = grind (arith, nat_tests) in ap (λ n. n == 1) (bit_at-pow_other p q other)

no_bit : (q : ℕ) → (bit_at 0 q == 1) ≡ false
no_bit q = ap (λ n. n == 1) (bit_at-zero q)

shifted : (p : ℕ) → p < 128 → 1 * 2 ^ p % 2 ^ 128 ≡ 2 ^ p
shifted p lt =
    let below : 2 ^ p < 2 ^ 128 = pow_below p 128 lt in
    let one : 1 * 2 ^ p ≡ 2 ^ p = omega arith in
    ap (λ n. n % 2 ^ 128) one ∙ mod-eq_of_lt below

pub has-low : (p : ℕ) → p < 128 → has (record { low = 1 * 2 ^ p % 2 ^ 128; high = 0 }) ≡ (λ q. q == p)
has-low p lt = λ i q. at q i
  where
    by_half : (q : ℕ) (b : Bool) → nat_lt q 128 ≡ b → (if b then bit_at (2 ^ p) q == 1 else (bit_at 0 (q - 128) == 1)) ≡ (q == p)
    by_half q true is = pow_bit p q
    by_half q false is = no_bit (q - 128) ∙ (grind (arith, nat_tests))

    at : (q : ℕ) → has (record { low = 1 * 2 ^ p % 2 ^ 128; high = 0 }) q ≡ (q == p)
    at q = rw (shifted p lt) (by_half q (nat_lt q 128) refl)

pub has-high : (p : ℕ) → 128 ≤ p → p < 256 → has (record { low = 0; high = 1 * 2 ^ (p - 128) % 2 ^ 128 }) ≡ (λ q. q == p)
has-high p ge lt = λ i q. at q i
  where
    same_test : (q : ℕ) → 128 ≤ q → (q - 128 == p - 128) ≡ (q == p)
    same_test q far = grind (arith, nat_tests)

    by_half : (q : ℕ) (b : Bool) → nat_lt q 128 ≡ b → (if b then bit_at 0 q == 1 else (bit_at (2 ^ (p - 128)) (q - 128) == 1)) ≡ (q == p)
    by_half q true is = no_bit q ∙ (grind (arith, nat_tests))
    by_half q false is = pow_bit (p - 128) (q - 128) ∙ same_test q (grind (arith, nat_tests))

    at : (q : ℕ) → has (record { low = 0; high = 1 * 2 ^ (p - 128) % 2 ^ 128 }) q ≡ (q == p)
    at q = rw (shifted (p - 128) (omega arith)) (by_half q (nat_lt q 128) refl)
