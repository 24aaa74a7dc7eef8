-- The width of a degree of longitude falls toward the poles.
use Rattle.plan_base.proofs.Common.{◌≡◌, ℕ, zero, suc, ◌≤◌, arith, List, [], ◌∷◌, get_or, Bool, true, ◌&&◌, nat_le, refl, nat_tests}
use Rattle.geo_length.specs.{widths, width_at}

-- each number is at most the one before it, the first one at most a bound
abbrev falls : ℕ → List ℕ → Bool
falls most [] = true
falls most (x ∷ xs) = nat_le x most && falls x xs

first_falls : (most x : ℕ) (xs : List ℕ) → falls most (x ∷ xs) ≡ true → x ≤ most
first_falls most x xs h = grind (arith, nat_tests)

rest_falls : (most x : ℕ) (xs : List ℕ) → falls most (x ∷ xs) ≡ true → falls x xs ≡ true
rest_falls most x xs h = grind (arith, nat_tests)

get_or-falls : (most : ℕ) (xs : List ℕ) (k : ℕ) → falls most xs ≡ true → get_or xs k 0 ≤ most
get_or-falls most [] k h = omega arith
get_or-falls most (x ∷ xs) zero h = first_falls most x xs h
get_or-falls most (x ∷ xs) (suc k) h = omega (arith, first_falls most x xs h, get_or-falls x xs k (rest_falls most x xs h))

get_or-falls_on : (most : ℕ) (xs : List ℕ) (j k : ℕ) → falls most xs ≡ true → j ≤ k → get_or xs k 0 ≤ get_or xs j 0
get_or-falls_on most [] j k h le = omega arith
get_or-falls_on most (x ∷ xs) zero zero h le = omega arith
get_or-falls_on most (x ∷ xs) zero (suc k) h le = get_or-falls x xs k (rest_falls most x xs h)
get_or-falls_on most (x ∷ xs) (suc j) zero h le = absurd (omega arith)
get_or-falls_on most (x ∷ xs) (suc j) (suc k) h le = get_or-falls_on x xs j k (rest_falls most x xs h) (omega arith)

pub width_at-le : (degree : ℕ) → width_at degree ≤ 10000
unfolding width_at
width_at-le degree = get_or-falls 10000 widths degree refl

pub width_at-falls : (j k : ℕ) → j ≤ k → width_at k ≤ width_at j
unfolding width_at
width_at-falls j k le = get_or-falls_on 10000 widths j k refl le
