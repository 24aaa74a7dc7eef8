-- Filters and what is contained.
use Rattle.plan_base.proofs.Common.{◌≡◌, ◌≢◌, ℕ, ◌+◌, ◌<◌, ◌⊎◌, inl, inr, Bool, true, false, cond, List, [], ◌∷◌, ◌++◌, ◌∙◌, length, take, get_or, set, Some, refl, sym, ap, subst, arith, Contains, filter, slice_get, false≢true, cases_eq, slice_get-get_or, get_or_from_slice_get, slice_get_within, same_Some, take_more, length_push, get_or_append_left, get_or_push, Contains-push_cases}
use Rattle.witness.proofs.ListLemmas.{contains_head, contains_tail, head_or_tail, slice_get-set_same, slice_get-set_other}

pub none_in : {X : Type 0} (x : X) → Contains [] x → ⊥
none_in x (k, lt, is) = omega arith

-- what a filter keeps, and that it keeps nothing else
pub filter_keeps : {X : Type 0} (p : X → Bool) (xs : List X) (y : X) → Contains xs y → p y ≡ true → Contains (filter p xs) y
filter_keeps p [] y there pass = absurd (none_in y there)
filter_keeps {X} p (x ∷ xs) y there pass = by_test (p x) refl (head_or_tail x xs y there) (λ later. filter_keeps p xs y later pass) where
  by_test : (b : Bool) → p x ≡ b → (x ≡ y) ⊎ Contains xs y → (Contains xs y → Contains (filter p xs) y) → Contains (cond b (x ∷ filter p xs) (filter p xs)) y
  by_test true e (inl same) next = subst (λ z. Contains (z ∷ filter p xs) y) (sym same) (contains_head y (filter p xs))
  by_test true e (inr later) next = contains_tail x (filter p xs) y (next later)
  by_test false e (inl same) next = absurd (false≢true (sym e ∙ ap p same ∙ pass))
  by_test false e (inr later) next = next later

pub filter_was : {X : Type 0} (p : X → Bool) (xs : List X) (y : X) → Contains (filter p xs) y → Contains xs y × (p y ≡ true)
filter_was p [] y there = absurd (none_in y there)
filter_was {X} p (x ∷ xs) y there = by_test (p x) refl there (filter_was p xs y) where
  by_test : (b : Bool) → p x ≡ b → Contains (cond b (x ∷ filter p xs) (filter p xs)) y → (Contains (filter p xs) y → Contains xs y × (p y ≡ true)) → Contains (x ∷ xs) y × (p y ≡ true)
  by_test true e there next = elim (head_or_tail x (filter p xs) y there) [
    | inl same ↦ (subst (λ z. Contains (x ∷ xs) z) same (contains_head x xs), ap p (sym same) ∙ e)
    | inr later ↦ (let was = next later in (contains_tail x xs y was.0, was.1))
  ]
  by_test false e there next = let was = next there in (contains_tail x xs y was.0, was.1)

pub take_more_cases : {X : Type 0} (xs : List X) (i : ℕ) (d y : X) → i < length xs → Contains (take (i + 1) xs) y → Contains (take i xs) y ⊎ (get_or xs i d ≡ y)
take_more_cases xs i d y lt there = Contains-push_cases (take i xs) (get_or xs i d) y (subst (λ ys. Contains ys y) (take_more xs i d lt) there)

-- ---- places

pub place_of : {X : Type 0} (xs : List X) (x : X) → Contains xs x → (k : ℕ) × (slice_get xs k ≡ Some x)
place_of xs x (k, lt, is) = (k, slice_get-get_or xs k x lt ∙ ap Some is)

pub contains_place : {X : Type 0} (xs : List X) (k : ℕ) (x : X) → slice_get xs k ≡ Some x → Contains xs x
contains_place xs k x at = (k, slice_get_within xs k x at, get_or_from_slice_get xs k x x at)

pub slice_get_push_left : {X : Type 0} (xs : List X) (y : X) (k : ℕ) (z : X) → slice_get xs k ≡ Some z → slice_get (xs ++ y ∷ []) k ≡ Some z
slice_get_push_left xs y k z at =
    let lt = slice_get_within xs k z at in
    slice_get-get_or (xs ++ y ∷ []) k z (omega (arith, length_push xs y)) ∙ ap Some (get_or_append_left xs (y ∷ []) z k lt ∙ get_or_from_slice_get xs k z z at)

pub slice_get_push_last : {X : Type 0} (xs : List X) (y : X) → slice_get (xs ++ y ∷ []) (length xs) ≡ Some y
slice_get_push_last xs y = slice_get-get_or (xs ++ y ∷ []) (length xs) y (omega (arith, length_push xs y)) ∙ ap Some (get_or_push xs y y (length xs) refl)

pub slice_get_push_cases : {X : Type 0} (xs : List X) (y : X) (k : ℕ) (z : X) → slice_get (xs ++ y ∷ []) k ≡ Some z → ((k ≡ length xs) × (z ≡ y)) ⊎ ((k ≢ length xs) × (slice_get xs k ≡ Some z))
slice_get_push_cases xs y k z at = elim (cases_eq k (length xs)) [
  | inl last ↦ inl (last, same_Some z y (sym at ∙ ap (λ j. slice_get (xs ++ y ∷ []) j) last ∙ slice_get_push_last xs y))
  | inr other ↦ (let lt : k < length xs = (let inside = slice_get_within (xs ++ y ∷ []) k z at in omega (arith, length_push xs y)) in
      inr (other, slice_get-get_or xs k z lt ∙ ap Some (sym (get_or_append_left xs (y ∷ []) z k lt) ∙ get_or_from_slice_get (xs ++ y ∷ []) k z z at)))
]

pub slice_get_set_cases : {X : Type 0} (xs : List X) (i : ℕ) (y : X) (k : ℕ) (z : X) → slice_get (set xs i y) k ≡ Some z → i < length xs → ((k ≡ i) × (z ≡ y)) ⊎ ((k ≢ i) × (slice_get xs k ≡ Some z))
slice_get_set_cases xs i y k z at lt = elim (cases_eq k i) [
  | inl here ↦ inl (here, same_Some z y (sym at ∙ ap (λ j. slice_get (set xs i y) j) here ∙ slice_get-set_same xs i y lt))
  | inr other ↦ inr (other, sym (slice_get-set_other xs i k y other) ∙ at)
]
