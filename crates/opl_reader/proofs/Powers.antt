-- Powers grow with the exponent.
use Rattle.plan_base.proofs.Common.{◌≡◌, ◌-◌, subst, ℕ, zero, suc, ◌+◌, ◌^◌, ◌≤◌, arith, add-zero, le_refl, pow-suc, mul-le-mul_left}
use Rattle.std.proofs.Common.{add-suc}

powers : (b i j : ℕ) → 1 ≤ b → b ^ i ≤ b ^ (i + j)
powers b i zero h = rw (add-zero i) (le_refl (b ^ i))
powers b i (suc j) h = rw (add-suc i j, pow-suc b (i + j)) (omega (arith, powers b i j h, mul-le-mul_left (b ^ (i + j)) h))

pub powers_up : (b i j : ℕ) → 1 ≤ b → i ≤ j → b ^ i ≤ b ^ j
powers_up b i j some h =
    let whole : i + (j - i) ≡ j = omega (arith, h) in
    subst (λ k. b ^ i ≤ b ^ k) whole (powers b i (j - i) some)
