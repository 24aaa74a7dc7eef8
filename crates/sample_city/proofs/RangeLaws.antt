-- Numbers that rise by one.
use Rattle.plan_base.proofs.Common.{◌≡◌, ℕ, zero, suc, ◌+◌, ◌<◌, ◌++◌, [], ◌∷◌, refl, sym, ap, subst, ◌∙◌, arith, All, range_with_len, get_or-range_with_len, length-range_with_len}

-- one number more
pub range_more : (a k : ℕ) → range_with_len a (k + 1) ≡ range_with_len a k ++ (a + k) ∷ []
range_more a zero = let same : a + 0 ≡ a = omega arith in rw same refl
range_more a (suc k) =
    let next : a + 1 + k ≡ a + suc k = omega arith in
    let more : suc k + 1 ≡ suc (k + 1) = omega arith in
    rw more (ap (λ later. a ∷ later) (range_more (a + 1) k ∙ ap (λ line. range_with_len (a + 1) k ++ line ∷ []) next))

pub below_end : (n : ℕ) → All (λ line. line < n) (range_with_len 0 n)
below_end n = λ k d within.
    let below : k < n = omega (arith, within, length-range_with_len 0 n) in
    subst (λ line. line < n) (sym (get_or-range_with_len 0 n k d below)) (omega arith)
