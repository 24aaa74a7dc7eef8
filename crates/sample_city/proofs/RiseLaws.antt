-- Lists whose elements have tags that rise.
use Rattle.plan_base.proofs.Common.{◌≡◌, ℕ, suc, ◌+◌, ◌<◌, ◌≤◌, List, [], ◌∷◌, ◌++◌, length, Bool, true, false, None, if◌then◌else◌, refl, sym, ap, ◌∙◌, arith, IsTotalOrder, All, AllByRecursion, IsPermutation, IsSorted, is_eq, is_lt, ordering_reverse, Ordering, Less, Equal, Greater, false≢true, All-cons, All-nil, IsDistinct-IsPermutation}
use Rattle.std.specs.List.{IsDistinct}
use Rattle.mode_network.specs.{first_unsorted}

module _ {X : Type 0} (Tagged : ℕ → X → Type 0) where
  -- the tags are `low` or more and below `high`, and each is above the one before it
  abbrev pub Rise : ℕ → ℕ → List X → Type 0
  Rise low high [] = low ≤ high
  Rise low high (x ∷ xs) = (tag : ℕ) × (low ≤ tag) × Tagged tag x × Rise (tag + 1) high xs

  pub rise_from : (less low high : ℕ) (xs : List X) → less ≤ low → Rise low high xs → Rise less high xs
  rise_from less low high [] le rise = omega (arith, le, rise)
  rise_from less low high (x ∷ xs) le rise = (rise.0, omega (arith, le, rise.1), rise.2, rise.3)

  pub rise_append : (low middle high : ℕ) (xs ys : List X) → Rise low middle xs → Rise middle high ys → Rise low high (xs ++ ys)
  rise_append low middle high [] ys front back = rise_from low middle high ys front back
  rise_append low middle high (x ∷ xs) ys front back = (front.0, front.1, front.2, rise_append (front.0 + 1) middle high xs ys front.3 back)

  pub rise_one : (low high : ℕ) (x : X) → low < high → Tagged low x → Rise low high (x ∷ [])
  rise_one low high x below is = (low, omega arith, is, omega (arith, below))

  pub rise_if : (low high : ℕ) (there : Bool) (xs : List X) → low ≤ high → (there ≡ true → Rise low high xs) → Rise low high (if there then xs else [])
  rise_if low high true xs le rise = rise refl
  rise_if low high false xs le rise = le

  pub rise_few : (low high : ℕ) (xs : List X) → Rise low high xs → length xs + low ≤ high
  rise_few low high [] rise = omega (arith, rise)
  rise_few low high (x ∷ xs) rise = omega (arith, rise.1, rise_few (rise.0 + 1) high xs rise.3)

  pub rise_all : (P : X → Type 0) (high : ℕ) → ((tag : ℕ) (x : X) → tag < high → Tagged tag x → P x) → (low : ℕ) (xs : List X) → Rise low high xs → All P xs
  rise_all P high gives low [] rise = All-nil P
  rise_all P high gives low (x ∷ xs) rise =
      All-cons P x xs (gives rise.0 x (omega (arith, rise_few (rise.0 + 1) high xs rise.3)) rise.2) (rise_all P high gives (rise.0 + 1) xs rise.3)

-- what rises is in order, where what has a greater tag is greater
module _ {X : Type 0} (Tagged : ℕ → X → Type 0) (cmp : X → X → Ordering) (below : (tag other : ℕ) (x y : X) → tag < other → Tagged tag x → Tagged other y → is_lt (cmp x y) ≡ true) where
  pub rise_in_order : (k low high : ℕ) (xs : List X) → Rise Tagged low high xs → first_unsorted cmp k xs ≡ None
  rise_in_order k low high [] rise = refl
  rise_in_order k low high (x ∷ []) rise = refl
  rise_in_order k low high (x ∷ y ∷ ys) rise =
      let step : is_lt (cmp x y) ≡ true = below rise.0 rise.3.0 x y (omega (arith, rise.3.1)) rise.2 rise.3.2 in
      rw step (rise_in_order (k + 1) (rise.0 + 1) high (y ∷ ys) rise.3)

-- and what rises is in order once it is sorted, where what ties has one tag
module _ {X : Type 0} (Tagged : ℕ → X → Type 0) (cmp : X → X → Ordering) (total : IsTotalOrder cmp) (once : (tag other : ℕ) (x y : X) → Tagged tag x → Tagged other y → is_eq (cmp x y) ≡ true → tag ≡ other) where
  abbrev ties : X → X → Bool
  ties x y = is_eq (cmp x y)

  flips : (x y : X) → ties x y ≡ ties y x
  flips x y = ap is_eq (total.antisymm x y) ∙ by_order (cmp y x)
    where
      by_order : (o : Ordering) → is_eq (ordering_reverse o) ≡ is_eq o
      by_order Less = refl
      by_order Equal = refl
      by_order Greater = refl

  apart : (tag : ℕ) (x : X) → Tagged tag x → (low high : ℕ) (ys : List X) → tag < low → Rise Tagged low high ys → AllByRecursion (λ y. ties x y ≡ false) ys
  apart tag x is low high [] under rise = tt
  apart tag x is low high (y ∷ ys) under rise = (
    by_test (ties x y) refl,
    apart tag x is (rise.0 + 1) high ys (omega (arith, under, rise.1)) rise.3,
  )
    where
      by_test : (t : Bool) → ties x y ≡ t → ties x y ≡ false
      by_test false e = e
      by_test true e = absurd (omega (arith, under, rise.1, once tag rise.0 x y is rise.2 e))

  distinct : (low high : ℕ) (xs : List X) → Rise Tagged low high xs → IsDistinct ties xs
  unfolding IsDistinct
  distinct low high [] rise = tt
  distinct low high (x ∷ xs) rise = (apart rise.0 x rise.2 (rise.0 + 1) high xs (omega arith) rise.3, distinct (rise.0 + 1) high xs rise.3)

  above : (x y : X) → ties x y ≡ false → is_lt (cmp y x) ≡ false → is_lt (cmp x y) ≡ true
  above x y apart not_below = by_order (cmp x y) refl
    where
      by_order : (o : Ordering) → cmp x y ≡ o → is_lt (cmp x y) ≡ true
      by_order Less e = ap is_lt e
      by_order Equal e = absurd (false≢true (sym apart ∙ ap is_eq e))
      by_order Greater e = absurd (false≢true (sym not_below ∙ ap is_lt (total.antisymm y x ∙ ap ordering_reverse e)))

  sorted_in_order : (k : ℕ) (xs : List X) → IsSorted cmp xs → IsDistinct ties xs → first_unsorted cmp k xs ≡ None
  unfolding IsDistinct
  sorted_in_order k [] sorted distinct = refl
  sorted_in_order k (x ∷ []) sorted distinct = refl
  sorted_in_order k (x ∷ y ∷ ys) sorted distinct =
      let step : is_lt (cmp x y) ≡ true = above x y distinct.0.0 (sorted 0 x (omega arith) (omega arith)) in
      let rest = sorted_in_order (k + 1) (y ∷ ys) (λ j d low within.
      let next : suc j + 1 ≡ suc (j + 1) = omega arith in
      rw next at (sorted (suc j) d (omega arith) (omega arith))) distinct.1 in
      rw step rest

  pub rise_sorted : (low high : ℕ) (xs ys : List X) → Rise Tagged low high xs → IsPermutation xs ys → IsSorted cmp ys → first_unsorted cmp 0 ys ≡ None
  rise_sorted low high xs ys rise moved sorted = sorted_in_order 0 ys sorted (IsDistinct-IsPermutation ties flips xs ys moved (distinct low high xs rise))
