-- A trip's id is one with the place of the trip.
use Rattle.plan_base.proofs.Common.{◌≡◌, ℕ, List, [], ◌∷◌, ◌++◌, map, get_or, refl, sym, ap, ap₂, ◌∙◌, Bool, true, false, nat_eq, ◌&&◌, ◌||◌, Option, None, Some, arith, inl, inr, bytes_eq, is_some, unwrap_or, list_any, AllByRecursion, cases_Bool, nat_tests, same_Some, position-Some, bytes_eq-Decides}
use Rattle.gtfs_tables.specs.{StopTime, HasTrip, call_key_of, is_same_key, place_among}

-- the id at a place
pub id_at_place : (ids : List (List ℕ)) (a : List ℕ) (j : ℕ) → place_among ids a ≡ Some j → a ≡ get_or ids j []
id_at_place ids a j is = (bytes_eq-Decides a (get_or ids j [])).0 (position-Some (bytes_eq a) ids j [] is).1

pub same_id : (ids : List (List ℕ)) (a b : List ℕ) (j : ℕ) → place_among ids a ≡ Some j → place_among ids b ≡ Some j → a ≡ b
same_id ids a b j is also = id_at_place ids a j is ∙ sym (id_at_place ids b j also)

-- two ids are the same where their places are
pub same_place : (ids : List (List ℕ)) (a b : List ℕ) (j k : ℕ) → place_among ids a ≡ Some j → place_among ids b ≡ Some k → bytes_eq a b ≡ nat_eq j k
same_place ids a b j k is also = elim (cases_Bool (bytes_eq a b)) [
  | inl same ↦
      let here = ap (place_among ids) ((bytes_eq-Decides a b).0 same) in
      let at : j ≡ k = same_Some j k (sym is ∙ here ∙ also) in
      same ∙ sym (grind (arith, nat_tests, at))
  | inr other ↦
      elim (cases_Bool (nat_eq j k)) [
        | inl at ↦
            let same : j ≡ k = grind (arith, nat_tests, at) in
            let here = same_id ids a b j is (also ∙ ap Some (sym same)) in
            absurd (cc (other, (bytes_eq-Decides a b).1 here))
        | inr not_at ↦ other ∙ sym not_at
      ]
]

-- the keys of the earlier rows, by the places of their trips
abbrev pub has_key_of : StopTime → StopTime → Bool
has_key_of time earlier = bytes_eq time.trip earlier.trip && nat_eq time.visit.sequence earlier.visit.sequence

pub found_key : (trips : List (List ℕ)) (time : StopTime) (k : ℕ) → place_among trips time.trip ≡ Some k → (earlier : List StopTime) → AllByRecursion (HasTrip trips) earlier
    → list_any (has_key_of time) earlier ≡ list_any (is_same_key (k, time.visit.sequence)) (map (call_key_of trips) earlier)
found_key trips time k is [] known = refl
found_key trips time k is (other ∷ earlier) known =
    ap₂ ◌||◌ (ap (λ same. same && nat_eq time.visit.sequence other.visit.sequence) (by_place (place_among trips other.trip) refl known.0)) (found_key trips time k is earlier known.1)
  where
    by_place : (o : Option ℕ) → place_among trips other.trip ≡ o → is_some o ≡ true → bytes_eq time.trip other.trip ≡ nat_eq k (unwrap_or o 0)
    by_place None at there = absurd cc
    by_place (Some j) at there = same_place trips time.trip other.trip k j is at

pub unknown_key : (trips : List (List ℕ)) (time : StopTime) → place_among trips time.trip ≡ None → (earlier : List StopTime) → AllByRecursion (HasTrip trips) earlier → list_any (has_key_of time) earlier ≡ false
unknown_key trips time is [] known = refl
unknown_key trips time is (other ∷ earlier) known =
    ap₂ ◌||◌ (ap (λ same. same && nat_eq time.visit.sequence other.visit.sequence) (differs (bytes_eq time.trip other.trip) refl)) (unknown_key trips time is earlier known.1)
  where
    lost : (o : Option ℕ) → o ≡ None → is_some o ≡ true → ⊥
    lost None none there = absurd cc
    lost (Some j) none there = absurd cc

    differs : (same : Bool) → bytes_eq time.trip other.trip ≡ same → bytes_eq time.trip other.trip ≡ false
    differs true e = absurd (lost (place_among trips other.trip) (sym (ap (place_among trips) ((bytes_eq-Decides time.trip other.trip).0 e)) ∙ is) known.0)
    differs false e = e

pub one_more_known : {F : Type 0} (P : F → Type 0) (earlier : List F) (f : F) → AllByRecursion P earlier → P f → AllByRecursion P (earlier ++ f ∷ [])
one_more_known P [] f known here = (here, tt)
one_more_known P (first ∷ earlier) f known here = (known.0, one_more_known P earlier f known.1 here)
