-- The runs of all trips, day by day.
use Rattle.plan_base.proofs.Common.{◌≡◌, ℕ, zero, suc, ◌+◌, ◌<◌, List, [], ◌∷◌, ◌++◌, length, cond, Bool, true, false, refl, ap, ◌∙◌, get_or, arith, sum_by, IsPermutation, range_with_len, sum_by-append, sum_by-IsPermutation}
use Rattle.plan_base.specs.{contains_day}
use Rattle.timetable_arcs.specs.{Instance, TripLists, no_trip, inside.runs_below, inside.runs_from, inside.weight_on}

-- one number more
pub range_more : (a n : ℕ) → range_with_len a (n + 1) ≡ range_with_len a n ++ (a + n) ∷ []
range_more a zero = let none : a + 0 ≡ a = omega arith in rw none refl
range_more a (suc n) =
    let next : a + 1 + n ≡ a + suc n = omega arith in
    let one : suc n + 1 ≡ suc (n + 1) = omega arith in
    ap (range_with_len a) one ∙ ap (λ (xs : List ℕ). a ∷ xs) (range_more (a + 1) n ∙ ap (λ (k : ℕ). range_with_len (a + 1) n ++ k ∷ []) next)

-- before the first day there are no runs
pub no_days : (place : ℕ) (trips : List TripLists) → runs_from 0 place trips ≡ []
no_days place [] = refl
no_days place (trip ∷ trips) = no_days (place + 1) trips

module _ (weight : Instance → ℕ) (day : ℕ) where
  -- the weight of the runs of the day, of the trips from a place on
  abbrev day_sum : ℕ → List TripLists → ℕ
  day_sum place [] = 0
  day_sum place (trip ∷ trips) = cond (contains_day trip.days day) (weight (record { trip = place; day = day })) 0 + day_sum (place + 1) trips

  one_or_none : (b : Bool) (run : Instance) → sum_by weight (cond b (run ∷ []) []) ≡ cond b (weight run) 0
  one_or_none true run = omega arith
  one_or_none false run = refl

  day_more : (place : ℕ) (trips : List TripLists) → sum_by weight (runs_from (suc day) place trips) ≡ sum_by weight (runs_from day place trips) + day_sum place trips
  day_more place [] = refl
  day_more place (trip ∷ trips) =
      let run : Instance = record { trip = place; day = day } in
      let today : List Instance = cond (contains_day trip.days day) (run ∷ []) [] in
      omega (
        arith,
        day_more (place + 1) trips,
        one_or_none (contains_day trip.days day) run,
        sum_by-append weight (runs_below place trip.days day) today,
        sum_by-append weight (runs_below place trip.days day ++ today) (runs_from (suc day) (place + 1) trips),
        sum_by-append weight (runs_below place trip.days day) (runs_from day (place + 1) trips),
      )

  -- it is a sum over the places
  places_sum : (f : ℕ → ℕ) (place : ℕ) (trips : List TripLists)
      → ((k : ℕ) → k < length trips → f (place + k) ≡ cond (contains_day (get_or trips k no_trip).days day) (weight (record { trip = place + k; day = day })) 0)
      → day_sum place trips ≡ sum_by f (range_with_len place (length trips))
  places_sum f place [] each = refl
  places_sum f place (trip ∷ trips) each =
      let none : place + 0 ≡ place = omega arith in
      let first : f place ≡ cond (contains_day trip.days day) (weight (record { trip = place; day = day })) 0 = rw none at (each 0 (omega arith)) in
      let rest = places_sum f (place + 1) trips (λ k lt. let next : place + 1 + k ≡ place + suc k = omega arith in rw next (each (suc k) (omega arith))) in
      let later = range_with_len (place + 1) (length trips) in
      let parts : sum_by f (range_with_len place (length (trip ∷ trips))) ≡ sum_by f (place ∷ []) + sum_by f later = sum_by-append f (place ∷ []) later in
      let one : sum_by f (place ∷ []) ≡ f place = omega arith in
      omega (arith, parts, one, first, rest)

  -- in any order of the places
  pub day_in_order : (trips : List TripLists) (order : List ℕ) → IsPermutation (range_with_len 0 (length trips)) order
      → sum_by weight (runs_from (day + 1) 0 trips) ≡ sum_by weight (runs_from day 0 trips) + sum_by (weight_on weight trips day) order
  day_in_order trips order permutes =
      let more = day_more 0 trips in
      let places = places_sum (weight_on weight trips day) 0 trips (λ k lt. let same : 0 + k ≡ k = omega arith in rw same refl) in
      let sorted = sum_by-IsPermutation (weight_on weight trips day) (range_with_len 0 (length trips)) order permutes in
      let next : day + 1 ≡ suc day = omega arith in
      rw next (omega (arith, more, places, sorted))
