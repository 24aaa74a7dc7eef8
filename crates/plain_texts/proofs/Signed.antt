-- The two laws of signed numbers.
use Rattle.std.proofs.Common.{◌≡◌, ℕ, zero, suc, List, [], ◌∷◌, refl, ap, sym, ◌∙◌, subst, ◌<◌, ◌≤◌, ◌+◌, ◌^◌, arith, Bool, true, false, cond, ℤ, pos, negsuc, Option, Some, None, option_and_then, option_map, decimal, unsigned_abs, ◌==◌}
use Rattle.std.specs.Fmt.{signed_decimal}
use Rattle.std.proofs.lemmas.Option.{none-some, same_Some, option_and_then_some}
use Rattle.std.proofs.lemmas.Bool.Decides.{nat_tests}
use Rattle.plain_texts.specs.{IsReadBy, number_at, minus, signed_at}
use Rattle.plain_texts.proofs.{Reading.read_by_laws, Decimal.number_takes, Decimal.number_again, Decimal.first_digit}

-- what a minus before a number gives
minus_takes : (n : ℕ) (z : ℤ) → minus n ≡ Some z → (unsigned_abs z ≡ n) × (45 ∷ decimal n ≡ signed_decimal z)
minus_takes zero z e = absurd (none-some z e)
minus_takes (suc n) z e = rw (sym (same_Some (negsuc n) z e)) (refl, refl)

positive_takes : (o : Option ℕ) (z : ℤ) → option_map pos o ≡ Some z → (n : ℕ) × (o ≡ Some n) × (z ≡ pos n)
positive_takes None z e = absurd (none-some z e)
positive_takes (Some n) z e = (n, refl, sym (same_Some (pos n) z e))

pub signed_takes : (t : List ℕ) (below : ℕ) (z : ℤ) → below ≤ 10 ^ 30 → signed_at below t ≡ Some z → (unsigned_abs z < below) × (t ≡ signed_decimal z)
unfolding signed_at
signed_takes [] below z small e = absurd (none-some z e)
signed_takes (b ∷ bs) below z small e = by_sign (b == 45) refl e
  where
    by_sign : (t : Bool) → (b == 45) ≡ t → cond t (option_and_then minus (number_at below bs)) (option_map pos (number_at below (b ∷ bs))) ≡ Some z → (unsigned_abs z < below) × (b ∷ bs ≡ signed_decimal z)
    by_sign true is e = option_and_then_some minus (number_at below bs) z e (λ n read e.
        let number = number_takes bs below n small read in
        let signed = minus_takes n z e in
        let sign : b ≡ 45 = grind (arith, nat_tests) in
        (rw signed.0 number.0, ap (λ x. x ∷ bs) sign ∙ ap (λ x. 45 ∷ x) number.1 ∙ signed.1))
    by_sign false is e =
        let number = positive_takes (number_at below (b ∷ bs)) z e in
        let read = number_takes (b ∷ bs) below number.0 small number.1 in
        (subst (λ x. unsigned_abs x < below) (sym number.2) read.0, read.1 ∙ ap signed_decimal (sym number.2))

-- A number without a sign doesn't begin with a minus.
no_minus : (n : ℕ) (bs : List ℕ) (b : ℕ) → n < 10 ^ 30 → decimal n ≡ b ∷ bs → (b == 45) ≡ false
no_minus n bs b small e =
    let first = first_digit n small in
    let same : b ≡ 48 + first.0 = cc (e, first.3) in
    grind (arith, nat_tests, same, first.2)

positive_again : (below n : ℕ) → below ≤ 10 ^ 30 → n < below → (t : List ℕ) → t ≡ decimal n → signed_at below t ≡ Some (pos n)
unfolding signed_at
positive_again below n small h [] e = let first = first_digit n (omega arith) in cc (e, first.3)
positive_again below n small h (b ∷ bs) e = rw (no_minus n bs b (omega arith) (sym e)) (ap (option_map pos) (ap (number_at below) e ∙ number_again below n small h))

pub signed_again : (below : ℕ) (z : ℤ) → below ≤ 10 ^ 30 → unsigned_abs z < below → signed_at below (signed_decimal z) ≡ Some z
unfolding signed_at
signed_again below (pos n) small h = positive_again below n small h (decimal n) refl
signed_again below (negsuc n) small h = ap (option_and_then minus) (number_again below (suc n) small h)

-- The reader of signed numbers is exact.
pub signed_reads : (t : List ℕ) (below : ℕ) → below ≤ 10 ^ 30 → IsReadBy signed_decimal (λ z. unsigned_abs z < below) t (signed_at below t)
signed_reads t below small = read_by_laws signed_decimal (λ z. unsigned_abs z < below) t (signed_at below t) (λ z e. signed_takes t below z small e) (λ z h e. ap (signed_at below) e ∙ signed_again below z small h)
