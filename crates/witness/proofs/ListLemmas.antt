-- What a list contains, and what is at a place once one is set.
use Rattle.plan_base.proofs.Common.{◌≡◌, ◌≢◌, ℕ, zero, suc, ◌<◌, ◌⊎◌, inl, inr, List, [], ◌∷◌, length, set, Some, refl, ap, arith, Contains, slice_get}

pub contains_head : {X : Type 0} (x : X) (xs : List X) → Contains (x ∷ xs) x
contains_head x xs = (zero, (omega arith), refl)

pub contains_tail : {X : Type 0} (x : X) (xs : List X) (y : X) → Contains xs y → Contains (x ∷ xs) y
contains_tail x xs y (k, lt, is) = (suc k, (omega arith), is)

pub head_or_tail : {X : Type 0} (x : X) (xs : List X) (y : X) → Contains (x ∷ xs) y → (x ≡ y) ⊎ Contains xs y
head_or_tail x xs y (zero, lt, is) = inl is
head_or_tail x xs y (suc k, lt, is) = inr (k, (omega arith), is)

pub slice_get-set_same : {X : Type 0} (xs : List X) (i : ℕ) (a : X) → i < length xs → slice_get (set xs i a) i ≡ Some a
slice_get-set_same [] i a lt = absurd (omega arith)
slice_get-set_same (x ∷ xs) zero a lt = refl
slice_get-set_same (x ∷ xs) (suc i) a lt = slice_get-set_same xs i a (omega arith)

pub slice_get-set_other : {X : Type 0} (xs : List X) (i j : ℕ) (a : X) → j ≢ i → slice_get (set xs i a) j ≡ slice_get xs j
slice_get-set_other [] i j a differ = refl
slice_get-set_other (x ∷ xs) zero zero a differ = absurd (differ refl)
slice_get-set_other (x ∷ xs) zero (suc j) a differ = refl
slice_get-set_other (x ∷ xs) (suc i) zero a differ = refl
slice_get-set_other (x ∷ xs) (suc i) (suc j) a differ = slice_get-set_other xs i j a (λ e. differ (ap suc e))
