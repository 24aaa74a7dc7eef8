-- What follows for each trip from that trips break no rule.
use Rattle.plan_base.proofs.Common.{◌≡◌, ℕ, ◌+◌, ◌*◌, ◌^◌, ◌<◌, ◌≤◌, ◌&&◌, List, [], ◌∷◌, length, Option, Some, None, true, false, Bool, cond, nat_lt, nat_le, refl, ap, sym, arith, lit≤, suc, zero, not, slice_index_or, All, sum_by, position_or_len, ltb-true, ltb-false, leb-true, none-some, get_or_past, All-cons, AllPass-from_list_all, get_or-le-sum_by, sum_by-cons, fails_before_first}
use Rattle.timetable_arcs.specs.{Call, TableFault, TimeGoesBack, BadTrip, TripLists, is_early, is_trip, goes_on, unknown_stop, later_fault, trip_fault, or_later, trips_fault, AreTrips, no_trip}

pub both_true : (a b : Bool) → a && b ≡ true → (a ≡ true) × (b ≡ true)
both_true true true e = (refl, refl)
both_true true false e = cc
both_true false true e = cc
both_true false false e = cc

-- a trip that breaks no rule
pub record IsKeptTrip (days stops : ℕ) (trip : TripLists) : Type 0 where
  pub is : is_trip days trip ≡ true
  pub known : unknown_stop stops trip ≡ None
  pub goes_on : goes_on 0 trip.calls ≡ true

pub trip_kept : (days stops k : ℕ) (trip : TripLists) → trip_fault days stops k trip ≡ None → IsKeptTrip days stops trip
trip_kept days stops k trip e = on_is (is_trip days trip) refl e
  where
    on_times : (b : Bool) → goes_on 0 trip.calls ≡ b → cond b None (Some (TimeGoesBack k)) ≡ None → goes_on 0 trip.calls ≡ true
    on_times true h e = h
    on_times false h e = cc

    on_known : (o : Option ℕ) → unknown_stop stops trip ≡ o → later_fault k trip o ≡ None → (unknown_stop stops trip ≡ None) × (goes_on 0 trip.calls ≡ true)
    on_known None h e = (h, on_times (goes_on 0 trip.calls) refl e)
    on_known (Some call) h e = cc

    on_is : (b : Bool) → is_trip days trip ≡ b → cond b (later_fault k trip (unknown_stop stops trip)) (Some (BadTrip k)) ≡ None → IsKeptTrip days stops trip
    on_is true h e =
        let rest = on_known (unknown_stop stops trip) refl e in
        record { is = h; known = rest.0; goes_on = rest.1 }
    on_is false h e = cc

pub trips_kept : (days stops k : ℕ) (trips : List TripLists) → trips_fault days stops k trips ≡ None → All (IsKeptTrip days stops) trips
trips_kept days stops k [] e = λ j d lt. absurd (omega arith)
trips_kept days stops k (trip ∷ trips) e = on_fault (trip_fault days stops k trip) refl e (trips_kept days stops (k + 1) trips)
  where
    on_fault : (o : Option TableFault) → trip_fault days stops k trip ≡ o → or_later o (trips_fault days stops (k + 1) trips) ≡ None
        → (trips_fault days stops (k + 1) trips ≡ None → All (IsKeptTrip days stops) trips) → All (IsKeptTrip days stops) (trip ∷ trips)
    on_fault None h e rest = All-cons (IsKeptTrip days stops) trip trips (trip_kept days stops k trip h) (rest e)
    on_fault (Some fault) h e rest = cc

-- the parts of what makes a trip one
pub record IsWell (days : ℕ) (trip : TripLists) : Type 0 where
  pub two_calls : 2 ≤ length trip.calls
  pub some_day : 0 < trip.days.0
  pub within : trip.days.0 < 2 ^ days
  pub early : All (λ (call : Call). is_early call ≡ true) trip.calls

pub trip_well : (days stops : ℕ) (trip : TripLists) → IsKeptTrip days stops trip → IsWell days trip
trip_well days stops trip h =
    let first = both_true _ _ h.is in
    let second = both_true _ _ first.0 in
    let third = both_true _ _ second.0 in
    let day = both_true _ _ second.1 in
    record {
      two_calls = leb-true _ _ third.1;
      some_day = ltb-true _ _ day.0;
      within = ltb-true _ _ day.1;
      early = AllPass-from_list_all is_early trip.calls first.1;
    }

-- no trip has more calls than all together
pub trip_short : (days stops : ℕ) (trips : List TripLists) → AreTrips days stops trips → (place : ℕ) → length (slice_index_or trips place no_trip).calls ≤ 2 ^ 25
trip_short days stops trips are place = by_place (nat_lt place (length trips)) refl
  where
    by_place : (b : Bool) → nat_lt place (length trips) ≡ b → length (slice_index_or trips place no_trip).calls ≤ 2 ^ 25
    by_place true h = omega (arith, are.few_calls, get_or-le-sum_by (λ (trip : TripLists). length trip.calls) trips place no_trip (ltb-true _ _ h))
    by_place false h = rw (get_or_past trips place no_trip (ltb-false _ _ h)) (lit≤ tt)

pub sum_at_least : {X : Type 0} (f : X → ℕ) (m : ℕ) (xs : List X) → All (λ x. m ≤ f x) xs → m * length xs ≤ sum_by f xs
sum_at_least f m [] h = omega arith
sum_at_least f m (x ∷ xs) h =
    let rest = sum_at_least f m xs (λ k d lt. h (suc k) d (omega arith)) in
    let first : m ≤ f x = h 0 x (omega arith) in
    omega (arith, rest, first, sum_by-cons f x xs)

-- a trip without an unknown stop has calls at stops alone
pub known_stops : (stops : ℕ) (trip : TripLists) → unknown_stop stops trip ≡ None → All (λ (call : Call). call.stop < stops) trip.calls
known_stops stops trip e k d lt = ltb-true _ _ (known (nat_lt (slice_index_or trip.calls k d).stop stops) refl)
  where
    past : (b : Bool) → nat_lt (position_or_len (λ (call : Call). not (nat_lt call.stop stops)) trip.calls) (length trip.calls) ≡ b
        → cond b (Some (position_or_len (λ (call : Call). not (nat_lt call.stop stops)) trip.calls)) None ≡ None → length trip.calls ≤ position_or_len (λ (call : Call). not (nat_lt call.stop stops)) trip.calls
    past true h none = absurd (none-some _ (sym none))
    past false h none = ltb-false _ _ h

    known : (b : Bool) → nat_lt (slice_index_or trip.calls k d).stop stops ≡ b → b ≡ true
    known true h = refl
    known false h =
        let le = past (nat_lt (position_or_len (λ (call : Call). not (nat_lt call.stop stops)) trip.calls) (length trip.calls)) refl e in
        let fails = fails_before_first (λ (call : Call). not (nat_lt call.stop stops)) trip.calls k d (omega (arith, le, lt)) in
        let passes : not (nat_lt (slice_index_or trip.calls k d).stop stops) ≡ true = ap not h in
        cc

-- times that go on: of each call, and of a call and a later one
pub on_from : (s : ℕ) (calls : List Call) → goes_on s calls ≡ true → (k : ℕ) (d : Call) → k < length calls → (s ≤ (slice_index_or calls k d).arr) × ((slice_index_or calls k d).arr ≤ (slice_index_or calls k d).dep)
on_from s [] e k d lt = absurd (omega arith)
on_from s (call ∷ calls) e zero d lt =
    let parts = both_true (nat_le s call.arr && nat_le call.arr call.dep) (goes_on call.dep calls) e in
    let here = both_true (nat_le s call.arr) (nat_le call.arr call.dep) parts.0 in
    (leb-true s call.arr here.0, leb-true call.arr call.dep here.1)
on_from s (call ∷ calls) e (suc k) d lt =
    let parts = both_true (nat_le s call.arr && nat_le call.arr call.dep) (goes_on call.dep calls) e in
    let here = both_true (nat_le s call.arr) (nat_le call.arr call.dep) parts.0 in
    let later = on_from call.dep calls parts.1 k d (omega arith) in
    (omega (arith, leb-true s call.arr here.0, leb-true call.arr call.dep here.1, later.0), later.1)

pub on_later : (s : ℕ) (calls : List Call) → goes_on s calls ≡ true → (i j : ℕ) (d : Call) → i < j → j < length calls → (slice_index_or calls i d).dep ≤ (slice_index_or calls j d).arr
on_later s [] e i j d lt within = absurd (omega arith)
on_later s (call ∷ calls) e i zero d lt within = absurd (omega arith)
on_later s (call ∷ calls) e zero (suc j) d lt within =
    (on_from call.dep calls (both_true (nat_le s call.arr && nat_le call.arr call.dep) (goes_on call.dep calls) e).1 j d (omega arith)).0
on_later s (call ∷ calls) e (suc i) (suc j) d lt within =
    on_later call.dep calls (both_true (nat_le s call.arr && nat_le call.arr call.dep) (goes_on call.dep calls) e).1 i j d (omega arith) (omega arith)
