-- Rows in the order of their trips: those of a trip stand in front, once those of earlier trips are gone.
use Rattle.plan_base.proofs.Common.{◌≡◌, ℕ, suc, ◌+◌, ◌≤◌, List, [], ◌∷◌, length, take, drop, Bool, true, false, refl, sym, ap, subst, ◌∙◌, arith, filter, IsSorted, is_lt, nat_cmp, ordering_then, nat_tests, drop_all, take_all}
use Rattle.std.proofs.lemmas.List.Sums.{take_while-cons}
use Rattle.region_build.specs.{Ascend, is_of, own_count}

module _ {X : Type 0} (trip : X → ℕ) where
  weaker : (j k : ℕ) (xs : List X) → j ≤ k → Ascend trip k xs → Ascend trip j xs
  weaker j k [] low h = tt
  weaker j k (x ∷ xs) low h = (omega (arith, h.0), h.1)

  is_here : (k : ℕ) (x : X) → is_of trip k x ≡ true → trip x ≡ k
  is_here k x e = grind (arith, nat_tests, e)

  is_later : (k : ℕ) (x : X) → k ≤ trip x → is_of trip k x ≡ false → k + 1 ≤ trip x
  is_later k x low e = grind (arith, nat_tests, e)

  is_other : (k : ℕ) (x : X) → k + 1 ≤ trip x → is_of trip k x ≡ false
  is_other k x low = grind (arith, nat_tests, low)

  none_of : (k : ℕ) (xs : List X) → Ascend trip (k + 1) xs → filter (is_of trip k) xs ≡ []
  none_of k [] h = refl
  none_of k (x ∷ xs) h = rw (is_other k x h.0) (none_of k xs (weaker (k + 1) (trip x) xs h.0 h.1))

  own_count-yes : (k : ℕ) (x : X) (xs : List X) → is_of trip k x ≡ true → own_count trip k (x ∷ xs) ≡ suc (own_count trip k xs)
  own_count-yes k x xs e = ap length (take_while-cons (is_of trip k) x xs) ∙ rw e refl

  own_count-no : (k : ℕ) (x : X) (xs : List X) → is_of trip k x ≡ false → own_count trip k (x ∷ xs) ≡ 0
  own_count-no k x xs e = ap length (take_while-cons (is_of trip k) x xs) ∙ rw e refl

  behind : (k : ℕ) (x : X) (xs : List X) → is_of trip k x ≡ true → Ascend trip (trip x) xs → Ascend trip k xs
  behind k x xs e h = let here = is_here k x e in weaker k (trip x) xs (omega arith) h

  pub own : (k : ℕ) (xs : List X) → Ascend trip k xs → take (own_count trip k xs) xs ≡ filter (is_of trip k) xs
  own k [] h = take_all (own_count trip k []) [] (omega arith)
  own k (x ∷ xs) h = by_test (is_of trip k x) refl (own k xs)
    where
      by_test : (here : Bool) → is_of trip k x ≡ here → (Ascend trip k xs → take (own_count trip k xs) xs ≡ filter (is_of trip k) xs) → take (own_count trip k (x ∷ xs)) (x ∷ xs) ≡ filter (is_of trip k) (x ∷ xs)
      by_test true e rest = rw (own_count-yes k x xs e, e) (ap (λ ys. x ∷ ys) (rest (behind k x xs e h.1)))
      by_test false e rest = rw (own_count-no k x xs e, e) (sym (none_of k xs (weaker (k + 1) (trip x) xs (is_later k x h.0 e) h.1)))

  pub later : (k : ℕ) (xs : List X) → Ascend trip k xs → Ascend trip (k + 1) (drop (own_count trip k xs) xs)
  later k [] h = subst (Ascend trip (k + 1)) (sym (drop_all (own_count trip k []) [] (omega arith))) tt
  later k (x ∷ xs) h = by_test (is_of trip k x) refl (later k xs)
    where
      by_test : (here : Bool) → is_of trip k x ≡ here → (Ascend trip k xs → Ascend trip (k + 1) (drop (own_count trip k xs) xs)) → Ascend trip (k + 1) (drop (own_count trip k (x ∷ xs)) (x ∷ xs))
      by_test true e rest = rw (own_count-yes k x xs e) (rest (behind k x xs e h.1))
      by_test false e rest = rw (own_count-no k x xs e) (is_later k x h.0 e, h.1)

  pub kept : (k j : ℕ) (xs : List X) → Ascend trip k xs → k + 1 ≤ j → filter (is_of trip j) (drop (own_count trip k xs) xs) ≡ filter (is_of trip j) xs
  kept k j [] h high = ap (filter (is_of trip j)) (drop_all (own_count trip k []) [] (omega arith))
  kept k j (x ∷ xs) h high = by_test (is_of trip k x) refl (kept k j xs)
    where
      by_test : (here : Bool) → is_of trip k x ≡ here → (Ascend trip k xs → k + 1 ≤ j → filter (is_of trip j) (drop (own_count trip k xs) xs) ≡ filter (is_of trip j) xs)
          → filter (is_of trip j) (drop (own_count trip k (x ∷ xs)) (x ∷ xs)) ≡ filter (is_of trip j) (x ∷ xs)
      by_test true e rest =
          let here = is_here k x e in
          let other : is_of trip j x ≡ false = grind (arith, nat_tests, here) in
          rw (own_count-yes k x xs e, other) (rest (behind k x xs e h.1) high)
      by_test false e rest = rw (own_count-no k x xs e) refl

  -- what is sorted by trips, and then by another number, has its trips in order
  in_order : (second : X → ℕ) (a b : X) → is_lt (ordering_then (nat_cmp (trip b) (trip a)) (nat_cmp (second b) (second a))) ≡ false → trip a ≤ trip b
  in_order second a b e = grind (arith, nat_tests, e)

  rises : (second : X → ℕ) (x : X) (xs : List X) → IsSorted (λ a b. ordering_then (nat_cmp (trip a) (trip b)) (nat_cmp (second a) (second b))) (x ∷ xs) → Ascend trip (trip x) xs
  rises second x [] h = tt
  rises second x (y ∷ ys) h = (
    in_order second x y (h 0 x (omega arith) (omega arith)),
    rises second y ys (λ k d low below.
        let next : suc k + 1 ≡ suc (k + 1) = omega arith in
        rw next at (h (suc k) d (omega arith) (omega arith))),
  )

  pub ascend_from_sorted : (second : X → ℕ) (xs : List X) → IsSorted (λ a b. ordering_then (nat_cmp (trip a) (trip b)) (nat_cmp (second a) (second b))) xs → Ascend trip 0 xs
  ascend_from_sorted second [] h = tt
  ascend_from_sorted second (x ∷ xs) h = (omega arith, rises second x xs h)
