-- Trips that have the same head are alike.
use Rattle.plan_base.proofs.Common.{◌≡◌, ℕ, ◌+◌, ◌<◌, List, [], ◌∷◌, Some, zero, suc, inl, inr, refl, sym, ◌∙◌, ap, subst, arith, get_or_past, get_or_from_slice_get, slice_get_cases, range_with_len, ◌⊎◌, slice_get, slice_index_or, slice_set}
use Rattle.timetable_arcs.specs.{TripLists, plain_table, trip_at, AreAlike, inside.AreHeads, inside.HaveSameHead}
use Rattle.timetable_arcs.proofs.PatternLemmas.{alike_itself}

-- trips that one trip is alike are alike
pub alike_both : (c a b : TripLists) → AreAlike c a → AreAlike c b → AreAlike a b
alike_both c a b ca cb = record {
  letter = sym ca.letter ∙ cb.letter;
  calls = sym ca.calls ∙ cb.calls;
  each = λ k d lt. (let of_a = ca.each k d (subst (λ n. k < n) (sym ca.calls) lt) in let of_b = cb.each k d (subst (λ n. k < n) (sym ca.calls) lt) in
      record { stop = sym of_a.stop ∙ of_b.stop; board = sym of_a.board ∙ of_b.board; alight = sym of_a.alight ∙ of_b.alight });
}

pub heads_alike : (trips : List TripLists) (heads : List ℕ) → AreHeads trips heads → (a b : ℕ) → HaveSameHead heads a b
    → AreAlike (trip_at (plain_table [] trips) a) (trip_at (plain_table [] trips) b)
heads_alike trips heads are a b same =
    alike_both (trip_at (plain_table [] trips) same.head) _ _ (are a same.head same.one) (are b same.head same.other)

set_get : (xs : List ℕ) (i x k y : ℕ) → slice_get (slice_set xs i x) k ≡ Some y → ((k ≡ i) × (x ≡ y)) ⊎ (slice_get xs k ≡ Some y)
set_get [] i x k y is = inr is
set_get (z ∷ xs) zero x zero y is = let same : x ≡ y = cc in inl (refl, same)
set_get (z ∷ xs) zero x (suc k) y is = inr is
set_get (z ∷ xs) (suc i) x zero y is = inr is
set_get (z ∷ xs) (suc i) x (suc k) y is = elim (set_get xs i x k y is) [
  | inl p ↦ inl (ap suc p.0, p.1)
  | inr h ↦ inr h
]

pub heads_set : (trips : List TripLists) (heads : List ℕ) → AreHeads trips heads → (trip head : ℕ)
    → AreAlike (trip_at (plain_table [] trips) head) (trip_at (plain_table [] trips) trip) → AreHeads trips (slice_set heads trip head)
heads_set trips heads are trip head alike place h is = elim (set_get heads trip head place h is) [
  | inl p ↦ subst (λ x. AreAlike (trip_at (plain_table [] trips) x) (trip_at (plain_table [] trips) place)) p.1
      (subst (λ x. AreAlike (trip_at (plain_table [] trips) head) (trip_at (plain_table [] trips) x)) (sym p.0) alike)
  | inr old ↦ are place h old
]

range_get : (from n k h : ℕ) → slice_get (range_with_len from n) k ≡ Some h → h ≡ from + k
range_get from zero k h is = cc
range_get from (suc n) zero h is = let same : from ≡ h = cc in omega (arith, same)
range_get from (suc n) (suc k) h is = let later = range_get (from + 1) n k h is in omega (arith, later)

pub heads_themselves : (trips : List TripLists) (n : ℕ) → AreHeads trips (range_with_len 0 n)
heads_themselves trips n place head is =
    let same : head ≡ place = (let e = range_get 0 n place head is in omega (arith, e)) in
    subst (λ x. AreAlike (trip_at (plain_table [] trips) x) (trip_at (plain_table [] trips) place)) (sym same) (alike_itself (plain_table [] trips) place)

-- a trip is alike its head
head_alike : (trips : List TripLists) (heads : List ℕ) → AreHeads trips heads → (trip : ℕ)
    → AreAlike (trip_at (plain_table [] trips) (slice_index_or heads trip trip)) (trip_at (plain_table [] trips) trip)
head_alike trips heads are trip = elim ((slice_get_cases heads trip).1) [
  | inl e ↦ rw (get_or_from_slice_get heads trip e.0 trip e.2) (are trip e.0 e.2)
  | inr e ↦ rw (get_or_past heads trip trip e.0) (alike_itself (plain_table [] trips) trip)
]

-- the head of a trip's head may be its head
pub heads_joined : (trips : List TripLists) (heads of_heads : List ℕ) → AreHeads trips heads → AreHeads trips of_heads → (trip : ℕ)
    → AreHeads trips (slice_set heads trip (slice_index_or of_heads (slice_index_or heads trip trip) (slice_index_or heads trip trip)))
heads_joined trips heads of_heads are are_of trip =
    let head = slice_index_or heads trip trip in
    let of_head = slice_index_or of_heads head head in
    let back = alike_both _ _ _ (head_alike trips of_heads are_of head) (alike_itself (plain_table [] trips) of_head) in
    heads_set trips heads are trip of_head (alike_both _ _ _ back (head_alike trips heads are trip))
