-- How often a run stands in lists of runs.
use Rattle.plan_base.proofs.Common.{◌≡◌, ℕ, ◌+◌, ◌*◌, ◌<◌, ◌≤◌, ◌&&◌, List, [], ◌∷◌, length, Some, true, false, Bool, cond, nat_lt, nat_eq, refl, ap, sym, ◌∙◌, arith, suc, zero, get_or, slice_get, slice_index_or, Contains, All, sum_by, ltb-true, ltb-false, lt-ltb, le-ltb, eqb-true, eqb-false, eq-eqb, sum_by-cons, sum_by-append, get_or-le-sum_by, same_Some, none-some}
use Rattle.plan_base.specs.{DaySet, contains_day}
use Rattle.timetable_arcs.specs.{Instance, TripLists, calls_of, no_trip, inside.runs_below, inside.runs_from}

-- some element has a part in a sum that is not 0
pub some_part : {X : Type 0} (f : X → ℕ) (xs : List X) (d : X) → 0 < sum_by f xs → (k : ℕ) × (k < length xs) × (0 < f (get_or xs k d))
some_part f [] d h = absurd (omega arith)
some_part f (x ∷ xs) d h = by_first (nat_lt 0 (f x)) refl (some_part f xs d)
  where
    by_first : (b : Bool) → nat_lt 0 (f x) ≡ b → (0 < sum_by f xs → (k : ℕ) × (k < length xs) × (0 < f (get_or xs k d))) → (k : ℕ) × (k < length (x ∷ xs)) × (0 < f (get_or (x ∷ xs) k d))
    by_first true e rest = (0, omega arith, ltb-true 0 (f x) e)
    by_first false e rest =
        let later = rest (omega (arith, h, sum_by-cons f x xs, ltb-false 0 (f x) e)) in
        (suc later.0, omega (arith, later.1), later.2)

-- two elements have at most the whole sum
pub two_parts : {X : Type 0} (f : X → ℕ) (xs : List X) (i j : ℕ) (d : X) → i < j → j < length xs → f (get_or xs i d) + f (get_or xs j d) ≤ sum_by f xs
two_parts f [] i j d lt within = absurd (omega arith)
two_parts f (x ∷ xs) i zero d lt within = absurd (omega arith)
two_parts f (x ∷ xs) zero (suc j) d lt within = omega (arith, sum_by-cons f x xs, get_or-le-sum_by f xs j d (omega arith))
two_parts f (x ∷ xs) (suc i) (suc j) d lt within = omega (arith, sum_by-cons f x xs, two_parts f xs i j d (omega arith) (omega arith))

pub sum_no_more : {X : Type 0} (f g : X → ℕ) (xs : List X) → All (λ x. f x ≤ g x) xs → sum_by f xs ≤ sum_by g xs
sum_no_more f g [] h = omega arith
sum_no_more f g (x ∷ xs) h =
    let first : f x ≤ g x = h 0 x (omega arith) in
    omega (arith, first, sum_no_more f g xs (λ k d lt. h (suc k) d (omega arith)), sum_by-cons f x xs, sum_by-cons g x xs)

module _ (run : Instance) where
  -- 1 at the run, and 0 elsewhere
  abbrev pub one_at : Instance → ℕ
  one_at r = cond (nat_eq r.trip run.trip && nat_eq r.day run.day) 1 0

  pub one_here : one_at run ≡ 1
  one_here = rw (eq-eqb run.trip run.trip refl, eq-eqb run.day run.day refl) refl

  pub same_run : (r : Instance) → 0 < one_at r → r ≡ run
  same_run r h = by_tests (nat_eq r.trip run.trip) refl (nat_eq r.day run.day) refl h
    where
      by_tests : (b : Bool) → nat_eq r.trip run.trip ≡ b → (c : Bool) → nat_eq r.day run.day ≡ c → 0 < cond (b && c) 1 0 → r ≡ run
      by_tests true e true f h =
          ap (λ (k : ℕ). let i : Instance = record { trip = k; day = r.day } in i) (eqb-true r.trip run.trip e)
          ∙ ap (λ (k : ℕ). let i : Instance = record { trip = run.trip; day = k } in i) (eqb-true r.day run.day f)
      by_tests true e false f h = absurd (omega arith)
      by_tests false e true f h = absurd (omega arith)
      by_tests false e false f h = absurd (omega arith)

  pub counted_in : (runs : List Instance) → Contains runs run → 1 ≤ sum_by one_at runs
  counted_in runs (k, within, is) =
      let part = get_or-le-sum_by one_at runs k run within in
      let one : one_at (get_or runs k run) ≡ 1 = ap one_at is ∙ one_here in
      omega (arith, part, one)

  pub in_from_count : (runs : List Instance) → 0 < sum_by one_at runs → Contains runs run
  in_from_count runs h =
      let part = some_part one_at runs run h in
      (part.0, part.1, same_run (get_or runs part.0 run) part.2)

  -- how often it is among the runs of a trip below a day
  abbrev day_count : DaySet → ℕ → ℕ
  day_count days n = cond (nat_lt run.day n) (cond (contains_day days run.day) 1 0) 0

  other_place : (place : ℕ) (days : DaySet) (n : ℕ) → nat_eq place run.trip ≡ false → sum_by one_at (runs_below place days n) ≡ 0
  other_place place days zero e = refl
  other_place place days (suc n) e =
      sum_by-append one_at (runs_below place days n) (cond (contains_day days n) (record { trip = place; day = n } ∷ []) [])
      ∙ by_day (contains_day days n) (other_place place days n e)
    where
      by_day : (b : Bool) → sum_by one_at (runs_below place days n) ≡ 0 → sum_by one_at (runs_below place days n) + sum_by one_at (cond b (record { trip = place; day = n } ∷ []) []) ≡ 0
      by_day true rest = rw (rest, e) refl
      by_day false rest = rw rest refl

  same_place : (place : ℕ) (days : DaySet) (n : ℕ) → nat_eq place run.trip ≡ true → sum_by one_at (runs_below place days n) ≡ day_count days n
  same_place place days zero e = rw (le-ltb run.day 0 (omega arith)) refl
  same_place place days (suc n) e =
      sum_by-append one_at (runs_below place days n) (cond (contains_day days n) (record { trip = place; day = n } ∷ []) [])
      ∙ by_day (nat_eq n run.day) refl (same_place place days n e)
    where
      on_other : (b : Bool) → nat_eq n run.day ≡ false → sum_by one_at (cond b (record { trip = place; day = n } ∷ []) []) ≡ 0
      on_other true f = rw (e, f) refl
      on_other false f = refl

      on_same : (b : Bool) → nat_eq n run.day ≡ true → sum_by one_at (cond b (record { trip = place; day = n } ∷ []) []) ≡ cond b 1 0
      on_same true f = rw (e, f) refl
      on_same false f = refl

      before_more : (b : Bool) → nat_lt run.day n ≡ b → (n ≡ run.day → ⊥) → nat_lt run.day n ≡ nat_lt run.day (suc n)
      before_more true f apart = f ∙ sym (lt-ltb run.day (suc n) (omega (arith, ltb-true run.day n f)))
      before_more false f apart = f ∙ sym (le-ltb run.day (suc n) (omega (arith, ltb-false run.day n f, apart)))

      by_day : (b : Bool) → nat_eq n run.day ≡ b → sum_by one_at (runs_below place days n) ≡ day_count days n
          → sum_by one_at (runs_below place days n) + sum_by one_at (cond (contains_day days n) (record { trip = place; day = n } ∷ []) []) ≡ day_count days (suc n)
      by_day true f rest =
          let same = eqb-true n run.day f in
          let none : day_count days n ≡ 0 = rw (le-ltb run.day n (omega (arith, same))) refl in
          let all : day_count days (suc n) ≡ cond (contains_day days run.day) 1 0 = rw (lt-ltb run.day (suc n) (omega (arith, same))) refl in
          let here : ◌≡◌ {A = ℕ} (cond (contains_day days n) 1 0) (cond (contains_day days run.day) 1 0) = ap (λ (k : ℕ). cond (contains_day days k) 1 0) same in
          omega (arith, rest, none, all, here, on_same (contains_day days n) f)
      by_day false f rest =
          let more : day_count days n ≡ day_count days (suc n) = ap (λ (b : Bool). cond b (cond (contains_day days run.day) 1 0) 0) (before_more (nat_lt run.day n) refl (eqb-false n run.day f)) in
          omega (arith, rest, more, on_other (contains_day days n) f)

  module _ (n : ℕ) where
    none_before : (place : ℕ) (trips : List TripLists) → run.trip < place → sum_by one_at (runs_from n place trips) ≡ 0
    none_before place [] lt = refl
    none_before place (trip ∷ trips) lt =
        let apart : nat_eq place run.trip ≡ false = by_test (nat_eq place run.trip) refl in
        omega (arith, sum_by-append one_at (runs_below place trip.days n) (runs_from n (place + 1) trips), other_place place trip.days n apart, none_before (place + 1) trips (omega arith))
      where
        by_test : (b : Bool) → nat_eq place run.trip ≡ b → b ≡ false
        by_test true e = absurd (omega (arith, eqb-true place run.trip e))
        by_test false e = refl

    -- how often it is among the runs of trips, of which its own is at a place
    abbrev pub trip_count : List TripLists → ℕ → ℕ
    trip_count [] j = 0
    trip_count (trip ∷ trips) zero = day_count trip.days n
    trip_count (trip ∷ trips) (suc j) = trip_count trips j

    pub count_is : (place : ℕ) (trips : List TripLists) (j : ℕ) → run.trip ≡ place + j → sum_by one_at (runs_from n place trips) ≡ trip_count trips j
    count_is place [] j is = refl
    count_is place (trip ∷ trips) zero is =
        let same : nat_eq place run.trip ≡ true = eq-eqb place run.trip (omega arith) in
        omega (arith, sum_by-append one_at (runs_below place trip.days n) (runs_from n (place + 1) trips), same_place place trip.days n same, none_before (place + 1) trips (omega arith))
    count_is place (trip ∷ trips) (suc j) is =
        let apart : nat_eq place run.trip ≡ false = by_test (nat_eq place run.trip) refl in
        omega (arith, sum_by-append one_at (runs_below place trip.days n) (runs_from n (place + 1) trips), other_place place trip.days n apart, count_is (place + 1) trips j (omega arith))
      where
        by_test : (b : Bool) → nat_eq place run.trip ≡ b → b ≡ false
        by_test true e = absurd (omega (arith, is, eqb-true place run.trip e))
        by_test false e = refl

    day_count_is : (days : DaySet) → (day_count days n ≤ 1) × (0 < day_count days n → contains_day days run.day ≡ true)
    day_count_is days = by_tests (nat_lt run.day n) (contains_day days run.day) refl
      where
        by_tests : (b c : Bool) → contains_day days run.day ≡ c → (cond b (cond c 1 0) 0 ≤ 1) × (0 < cond b (cond c 1 0) 0 → contains_day days run.day ≡ true)
        by_tests true true e = (omega arith, λ h. e)
        by_tests true false e = (omega arith, λ h. absurd (omega arith))
        by_tests false true e = (omega arith, λ h. absurd (omega arith))
        by_tests false false e = (omega arith, λ h. absurd (omega arith))

    pub at_most_one : (trips : List TripLists) (j : ℕ) → trip_count trips j ≤ 1
    at_most_one [] j = omega arith
    at_most_one (trip ∷ trips) zero = (day_count_is trip.days).0
    at_most_one (trip ∷ trips) (suc j) = at_most_one trips j

    pub trip_from_count : (trips : List TripLists) (j : ℕ) → 0 < trip_count trips j
        → (slice_get trips j ≡ Some (slice_index_or trips j no_trip)) × (contains_day (slice_index_or trips j no_trip).days run.day ≡ true)
    trip_from_count [] j h = absurd (omega arith)
    trip_from_count (trip ∷ trips) zero h = (refl, (day_count_is trip.days).1 h)
    trip_from_count (trip ∷ trips) (suc j) h = trip_from_count trips j h

    pub count_from_trip : (trips : List TripLists) (j : ℕ) (trip : TripLists) → slice_get trips j ≡ Some trip → contains_day trip.days run.day ≡ true → run.day < n → trip_count trips j ≡ 1
    count_from_trip [] j trip is runs lt = absurd (none-some trip is)
    count_from_trip (first ∷ trips) zero trip is runs lt =
        let here : contains_day first.days run.day ≡ true = ap (λ (x : TripLists). contains_day x.days run.day) (same_Some first trip is) ∙ runs in
        rw (lt-ltb run.day n lt, here) refl
    count_from_trip (first ∷ trips) (suc j) trip is runs lt = count_from_trip trips j trip is runs lt

-- the calls of all runs together
module _ (all : List TripLists) where
  abbrev pub calls_of_run : Instance → ℕ
  calls_of_run r = length (slice_index_or all r.trip no_trip).calls

  below_calls : (place : ℕ) (days : DaySet) (n : ℕ) → sum_by calls_of_run (runs_below place days n) ≤ n * length (slice_index_or all place no_trip).calls
  below_calls place days zero = omega arith
  below_calls place days (suc n) =
      omega (arith, sum_by-append calls_of_run (runs_below place days n) (cond (contains_day days n) (record { trip = place; day = n } ∷ []) []), below_calls place days n, on_day (contains_day days n))
    where
      on_day : (b : Bool) → sum_by calls_of_run (cond b (record { trip = place; day = n } ∷ []) []) ≤ length (slice_index_or all place no_trip).calls
      on_day true = omega arith
      on_day false = omega arith

  from_calls : (n place : ℕ) (trips : List TripLists) → ((k : ℕ) → k < length trips → slice_index_or trips k no_trip ≡ slice_index_or all (place + k) no_trip) → sum_by calls_of_run (runs_from n place trips) ≤ n * calls_of trips
  from_calls n place [] are = omega arith
  from_calls n place (trip ∷ trips) are =
      let zero_more : place + 0 ≡ place = omega arith in
      let here : length trip.calls ≡ length (slice_index_or all place no_trip).calls = ap (λ (x : TripLists). length x.calls) (are 0 (omega arith) ∙ ap (λ (k : ℕ). slice_index_or all k no_trip) zero_more) in
      let one : sum_by calls_of_run (runs_below place trip.days n) ≤ n * length trip.calls = rw here (below_calls place trip.days n) in
      let rest = from_calls n (place + 1) trips (λ k lt. let next : place + suc k ≡ place + 1 + k = omega arith in are (suc k) (omega arith) ∙ ap (λ (j : ℕ). slice_index_or all j no_trip) next) in
      let total : calls_of (trip ∷ trips) ≡ length trip.calls + calls_of trips = sum_by-cons (λ (x : TripLists). length x.calls) trip trips in
      let spread : n * calls_of (trip ∷ trips) ≡ n * length trip.calls + n * calls_of trips = rw total (omega arith) in
      omega (arith, one, rest, spread, sum_by-append calls_of_run (runs_below place trip.days n) (runs_from n (place + 1) trips))

  pub all_calls : (n : ℕ) → sum_by calls_of_run (runs_from n 0 all) ≤ n * calls_of all
  all_calls n = from_calls n 0 all (λ k lt. let same : k ≡ 0 + k = omega arith in ap (λ (j : ℕ). slice_index_or all j no_trip) same)
