-- The whole root is the only number that is a root.
use Rattle.plan_base.proofs.Common.{◌≡◌, ℕ, zero, suc, ◌+◌, ◌*◌, ◌<◌, ◌≤◌, arith, ⊎_elim, mul-le-mul, cases_lt}
use Rattle.std.proofs.lemmas.Bool.Decides.{leb_tells}
use Rattle.geo_length.specs.{IsRoot, root, root_up_to}

-- a number above another has a square that is no less than the next one's
squares : (r q : ℕ) → r < q → (r + 1) * (r + 1) ≤ q * q
squares r q h = let next : r + 1 ≤ q = omega arith in mul-le-mul next next

root_up_to_is : (s bound : ℕ) → s < (bound + 1) * (bound + 1) → IsRoot s (root_up_to s bound)
unfolding root_up_to
root_up_to_is s zero h = record { square = omega arith; next = h }
root_up_to_is s (suc r) h =
    ⊎_elim
    (λ t. rw t.0 (record { square = t.1; next = omega arith }))
    (λ t. rw t.0 (root_up_to_is s r t.1))
    (leb_tells ((r + 1) * (r + 1)) s)

pub root_is : (s : ℕ) → IsRoot s (root s)
unfolding root
root_is s = root_up_to_is s s (omega arith)

no_greater : (s r q : ℕ) → IsRoot s r → IsRoot s q → q ≤ r
no_greater s r q a b =
    ⊎_elim (λ less. let above = squares r q less in absurd (omega (arith, above, a.next, b.square))) (λ no. no) (cases_lt r q)

IsRoot-only : (s r q : ℕ) → IsRoot s r → IsRoot s q → r ≡ q
IsRoot-only s r q a b = omega (arith, no_greater s r q a b, no_greater s q r b a)

pub root_only : (s r : ℕ) → r * r ≤ s → s < (r + 1) * (r + 1) → r ≡ root s
root_only s r square next = IsRoot-only s r (root s) (record { square = square; next = next }) (root_is s)

-- a number whose square is no greater is no greater than the root
pub root-ge : (s n : ℕ) → n * n ≤ s → n ≤ root s
root-ge s n h =
    ⊎_elim (λ less. let above = squares (root s) n less in absurd (omega (arith, above, h, (root_is s).next))) (λ no. no) (cases_lt (root s) n)
