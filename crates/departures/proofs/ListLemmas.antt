-- There is one list of departures.
use Rattle.plan_base.proofs.Common.{◌≡◌, ℕ, zero, suc, ◌+◌, ◌<◌, ◌≤◌, ◌⊎◌, Bool, true, false, nat_le, cond, List, [], ◌∷◌, Option, Some, None, inl, inr, refl, sym, ap, ◌∙◌, subst, arith, AllPairs, Contains, leb-true, leb-false, All-contains, Contains-append_left, Contains-append_right}
use Rattle.mode_network.specs.NetworkLists.{NetworkLists}
use Rattle.journey.specs.{Asked}
use Rattle.departures.specs.{Pair, IsWithout, IsListed, AreDepartures, first_from, DeparturesAreUnique}

abbrev pub AreRising : List Pair → Type 0
AreRising pairs = AllPairs (λ (first second : Pair). first.depart < second.depart) pairs

abbrev pub IsSubList : List Pair → List Pair → Type 0
IsSubList one other = (p : Pair) → Contains one p → Contains other p

pub here : (p : Pair) (pairs : List Pair) → Contains (p ∷ pairs) p
here p pairs = Contains-append_left (p ∷ []) pairs p (0, omega arith, refl)

pub later : (o p : Pair) (pairs : List Pair) → Contains pairs p → Contains (o ∷ pairs) p
later o p pairs there = Contains-append_right (o ∷ []) pairs p there

-- it is the first, or one of the others
pub first_or_later : (o p : Pair) (pairs : List Pair) → Contains (o ∷ pairs) p → (o ≡ p) ⊎ Contains pairs p
first_or_later o p pairs (zero, within, is) = inl is
first_or_later o p pairs (suc k, within, is) = inr (k, omega arith, is)

pub above_first : (o : Pair) (pairs : List Pair) → AreRising (o ∷ pairs) → (p : Pair) → Contains pairs p → o.depart < p.depart
above_first o pairs rising p (k, within, is) = subst (λ (x : Pair). o.depart < x.depart) is (rising 0 (suc k) p (omega arith) (omega arith))

pub rest_rises : (o : Pair) (pairs : List Pair) → AreRising (o ∷ pairs) → AreRising pairs
rest_rises o pairs rising = λ i j d less within. rising (suc i) (suc j) d (omega arith) (omega arith)

first_is_first : (x y : Pair) (xs ys : List Pair) → AreRising (x ∷ xs) → AreRising (y ∷ ys) → (y ≡ x) ⊎ Contains ys x → (x ≡ y) ⊎ Contains xs y → x ≡ y
first_is_first x y xs ys up above (inl same) other = sym same
first_is_first x y xs ys up above (inr one) (inl same) = same
first_is_first x y xs ys up above (inr one) (inr other) =
    let a = above_first y ys above x one in let b = above_first x xs up y other in absurd (omega arith)

rests : (x y : Pair) (xs ys : List Pair) → x ≡ y → AreRising (x ∷ xs) → IsSubList (x ∷ xs) (y ∷ ys) → IsSubList xs ys
rests x y xs ys same up there p held = on_cases (first_or_later y p ys (there p (later x p xs held)))
  where
    on_cases : (y ≡ p) ⊎ Contains ys p → Contains ys p
    on_cases (inl is) = let less = above_first x xs up p held in let at = ap (λ (o : Pair). o.depart) (same ∙ is) in absurd (omega arith)
    on_cases (inr more) = more

same_lists : (xs ys : List Pair) → AreRising xs → AreRising ys → IsSubList xs ys → IsSubList ys xs → xs ≡ ys
same_lists [] [] up above there back = refl
same_lists [] (y ∷ ys) up above there back = let h = back y (here y ys) in absurd (omega (arith, h.1))
same_lists (x ∷ xs) [] up above there back = let h = there x (here x xs) in absurd (omega (arith, h.1))
same_lists (x ∷ xs) (y ∷ ys) up above there back =
    let head : x ≡ y = first_is_first x y xs ys up above (first_or_later y x ys (there x (here x xs))) (first_or_later x y xs (back y (here y ys))) in
    let tail : xs ≡ ys = same_lists xs ys (rest_rises x xs up) (rest_rises y ys above) (rests x y xs ys head up there) (rests y x ys xs (sym head) above back) in
    ap (λ (o : Pair). o ∷ xs) head ∙ ap (λ (os : List Pair). y ∷ os) tail

one_without : (n : NetworkLists) (q : Asked) (c d : Option ℕ) → IsWithout n q c → IsWithout n q d → c ≡ d
one_without n q None None one other = refl
one_without n q None (Some d) one other = absurd (one other.journey (other.journey.at + d) other.without other.answers)
one_without n q (Some c) None one other = absurd (other one.journey (one.journey.at + c) one.without one.answers)
one_without n q (Some c) (Some d) one other =
    let a = one.least other.journey (other.journey.at + d) other.without other.answers in
    let b = other.least one.journey (one.journey.at + c) one.without one.answers in
    ap (λ k. Some k) (omega arith)

subset : (n : NetworkLists) (q : Asked) (c : Option ℕ) (window : ℕ) (xs ys : List Pair) → AreDepartures n q c window xs → AreDepartures n q c window ys → IsSubList xs ys
subset n q c window xs ys one other p held = other.whole p (All-contains (IsListed n q c window) xs p one.listed held)

pub departures_are_unique : DeparturesAreUnique
departures_are_unique n q window c d xs ys one_c one_d one other =
    let same = one_without n q c d one_c one_d in
    let also = subst (λ (o : Option ℕ). AreDepartures n q o window ys) (sym same) other in
    (same, same_lists xs ys one.rising also.rising (subset n q c window xs ys one also) (subset n q c window ys xs also one))

-- ---- the first from a moment on

-- of pairs by rising departures it is the first that departs at t or later; or none does
abbrev pub IsFirstFrom : ℕ → List Pair → Option Pair → Type 0
IsFirstFrom t pairs (Some row) = Contains pairs row × (t ≤ row.depart) × ((p : Pair) → Contains pairs p → t ≤ p.depart → row.depart ≤ p.depart)
IsFirstFrom t pairs None = (p : Pair) → Contains pairs p → t ≤ p.depart → ⊥

nothing_held : (p : Pair) → Contains [] p → ⊥
nothing_held p (k, within, is) = absurd (omega arith)

pub is_first : (t : ℕ) (pairs : List Pair) → AreRising pairs → IsFirstFrom t pairs (first_from t pairs)
is_first t [] rising = λ p held late. nothing_held p held
is_first t (o ∷ pairs) rising = on_test (nat_le t o.depart) refl (is_first t pairs (rest_rises o pairs rising))
  where
    -- the first one is too early
    not_first : (p : Pair) → o.depart < t → t ≤ p.depart → (o ≡ p) ⊎ Contains pairs p → Contains pairs p
    not_first p early late (inl is) = let at = ap (λ (x : Pair). x.depart) is in absurd (omega arith)
    not_first p early late (inr more) = more

    on_rest : (found : Option Pair) → o.depart < t → IsFirstFrom t pairs found → IsFirstFrom t (o ∷ pairs) found
    on_rest None early none = λ p held late. none p (not_first p early late (first_or_later o p pairs held)) late
    on_rest (Some row) early (there, at, first) =
        (later o row pairs there, at, λ p held late. first p (not_first p early late (first_or_later o p pairs held)) late)

    no_earlier : (p : Pair) → (o ≡ p) ⊎ Contains pairs p → o.depart ≤ p.depart
    no_earlier p (inl is) = let at = ap (λ (x : Pair). x.depart) is in omega arith
    no_earlier p (inr more) = let less = above_first o pairs rising p more in omega arith

    on_test : (b : Bool) → nat_le t o.depart ≡ b → IsFirstFrom t pairs (first_from t pairs) → IsFirstFrom t (o ∷ pairs) (cond b (Some o) (first_from t pairs))
    on_test true e rest = (here o pairs, leb-true t o.depart e, λ p held late. no_earlier p (first_or_later o p pairs held))
    on_test false e rest = on_rest (first_from t pairs) (leb-false t o.depart e) rest
