-- Days and their numbers.
use Rattle.plan_base.proofs.Common.{◌≡◌, ℕ, ◌<◌, ◌≤◌, ◌^◌, ◌/◌, ◌*◌, nat_lt, nat_eq, Bool, true, false, arith, refl, lit<, div-eq_of_lt, pow-le-pow_right, pow_pos, ltb-true, ltb-false, lt-ltb, eqb-true, eq-eqb}
use Rattle.std.proofs.Common.{div-lt_iff_lt-mul}

pub quotient_below : (n k : ℕ) → nat_eq (n / 2 ^ k) 0 ≡ nat_lt n (2 ^ k)
quotient_below n k = by_test (nat_lt n (2 ^ k)) refl (nat_eq (n / 2 ^ k) 0) refl
  where
    by_test : (b : Bool) → nat_lt n (2 ^ k) ≡ b → (c : Bool) → nat_eq (n / 2 ^ k) 0 ≡ c → c ≡ b
    by_test true e true h = refl
    by_test true e false h = let none = eq-eqb (n / 2 ^ k) 0 (div-eq_of_lt (ltb-true n (2 ^ k) e)) in cc
    by_test false e true h =
        let none = eqb-true (n / 2 ^ k) 0 h in
        let below : n < 1 * 2 ^ k = (div-lt_iff_lt-mul {k = 2 ^ k} {x = n} {y = 1} (pow_pos k)).0 (omega (arith, none)) in
        let above = ltb-false n (2 ^ k) e in
        absurd (omega (arith, below, above))
    by_test false e false h = refl

pub below_any : (n k : ℕ) → n < 2 ^ 128 → 128 ≤ k → nat_lt n (2 ^ k) ≡ true
below_any n k h le =
    let more : 2 ^ 128 ≤ 2 ^ k = pow-le-pow_right {n = 2} (lit< tt) {i = 128} {j = k} le in
    lt-ltb n (2 ^ k) (omega (arith, h, more))
