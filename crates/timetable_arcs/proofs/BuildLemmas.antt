-- The patterns that are made of trips are those of a timetable.
use Rattle.plan_base.proofs.Common.{◌≡◌, ℕ, ◌+◌, ◌*◌, ◌^◌, ◌<◌, ◌≤◌, List, [], ◌∷◌, ◌++◌, length, Some, None, true, false, Bool, cond, nat_lt, min, refl, ap, subst, ◌∙◌, arith, get_or, slice_index_or, All, sum_by, bit_at, ltb-true, ltb-false, eqb-true, bit_at_above, slice_get_within, get_or_from_slice_get, get_or_past, get_or-le-sum_by}
use Rattle.std.proofs.Common.{mul-le-mul_right}
use Rattle.plan_base.specs.{Caps, Trips, Calls, DaySet, contains_day}
use Rattle.timetable_arcs.specs.{Instance, TooMany, TripLists, IsRunOf, table_fault, trips_fault, calls_of, AreTrips, TableLists, plain_table, trip_at, pattern_trip, runs_of, no_run, no_trip, IsIn, IsBehind, AreAlike, ArePatterns, Board, Ride, rides_along, rides_from, rides_at, boards_along, boards_from, BoardLists, sorted_table, AreBoards, AreAlightPlaces, IsTable, AreBases, inside.runs_from, inside.sum_all, inside.IsPattern}
use Rattle.timetable_arcs.proofs.{TripLemmas.trips_kept, TripLemmas.trip_well, CountLemmas.some_part, CountLemmas.two_parts, CountLemmas.sum_no_more, CountLemmas.one_at, CountLemmas.counted_in, CountLemmas.in_from_count, CountLemmas.count_is, CountLemmas.at_most_one, CountLemmas.trip_from_count, CountLemmas.count_from_trip, CountLemmas.trip_count, CountLemmas.calls_of_run, CountLemmas.all_calls}

record HasFew (caps : Caps) (days stops : ℕ) (trips : List TripLists) : Type 0 where
  few_trips : length trips ≤ caps.trips
  few_calls : calls_of trips ≤ caps.calls
  faultless : trips_fault days stops 0 trips ≡ None

few_from_none : (caps : Caps) (days stops : ℕ) (trips : List TripLists) → table_fault caps days stops trips ≡ None → HasFew caps days stops trips
few_from_none caps days stops trips e = on_trips (nat_lt caps.trips (length trips)) refl e
  where
    on_calls : (b : Bool) → nat_lt caps.calls (calls_of trips) ≡ b → length trips ≤ caps.trips → cond b (Some (TooMany Calls)) (trips_fault days stops 0 trips) ≡ None → HasFew caps days stops trips
    on_calls true h few e = cc
    on_calls false h few e = record { few_trips = few; few_calls = ltb-false caps.calls (calls_of trips) h; faultless = e }

    on_trips : (b : Bool) → nat_lt caps.trips (length trips) ≡ b
        → cond b (Some (TooMany Trips)) (cond (nat_lt caps.calls (calls_of trips)) (Some (TooMany Calls)) (trips_fault days stops 0 trips)) ≡ None → HasFew caps days stops trips
    on_trips true h e = cc
    on_trips false h e = on_calls (nat_lt caps.calls (calls_of trips)) refl (ltb-false caps.trips (length trips) h) e

pub are_trips : (caps : Caps) (days stops : ℕ) (trips : List TripLists) → table_fault caps days stops trips ≡ None → AreTrips days stops trips
are_trips caps days stops trips e =
    let few = few_from_none caps days stops trips e in
    record {
      few = omega (arith, few.few_trips, caps.within.trips_within);
      few_calls = omega (arith, few.few_calls, caps.within.calls_within);
      faultless = few.faultless;
    }

-- a set of days that is below a power of two has no day from its exponent on
day_below : (days : DaySet) (day k : ℕ) → days.0 < 2 ^ k → contains_day days day ≡ true → day < k
day_below days day k lt has = by_place (nat_lt day k) refl
  where
    by_place : (b : Bool) → nat_lt day k ≡ b → day < k
    by_place true e = ltb-true day k e
    by_place false e =
        let none = bit_at_above days.0 k day lt (ltb-false day k e) in
        let one = eqb-true (bit_at days.0 day) 1 has in
        absurd (omega (arith, none, one))

-- runs that are sorted into patterns, each once, make a table of trips that break no rule
module _ (bases : List ℕ) (stops : ℕ) (trips : List TripLists) (patterns : List (List Instance))
    (are_bases : AreBases bases) (well : AreTrips (length bases) stops trips) (few_days : All (λ (trip : TripLists). trip.days.0 < 2 ^ 128) trips)
    (are : All (IsPattern (plain_table bases trips)) patterns)
    (each_once : (weight : Instance → ℕ) → sum_all weight patterns ≡ sum_by weight (runs_from (min (length bases) 128) 0 trips)) where
  abbrev table : TableLists
  table = record { bases = bases; stops = stops; trips = trips; patterns = patterns }

  counted : (run : Instance) → sum_all (one_at run) patterns ≡ trip_count run (min (length bases) 128) trips run.trip
  counted run = each_once (one_at run) ∙ count_is run (min (length bases) 128) 0 trips run.trip (omega arith)

  within : (p : ℕ) (run : Instance) → IsIn table p run → p < length patterns
  within p run (k, lt, is) = by_place (nat_lt p (length patterns)) refl
    where
      by_place : (b : Bool) → nat_lt p (length patterns) ≡ b → p < length patterns
      by_place true e = ltb-true p (length patterns) e
      by_place false e =
          let none : runs_of table p ≡ [] = get_or_past patterns p [] (ltb-false p (length patterns) e) in
          let empty = subst (λ (runs : List Instance). k < length runs) none lt in
          absurd (omega arith)

  counts_once : (p : ℕ) (run : Instance) → IsIn table p run → 1 ≤ sum_by (one_at run) (runs_of table p)
  counts_once p run h = counted_in run (runs_of table p) h

  is_run : (p : ℕ) (run : Instance) → IsIn table p run → IsRunOf trips run.trip run.day (trip_at table run.trip)
  is_run p run h =
      let part = get_or-le-sum_by (λ (runs : List Instance). sum_by (one_at run) runs) patterns p [] (within p run h) in
      let some : 0 < trip_count run (min (length bases) 128) trips run.trip = omega (arith, part, counts_once p run h, counted run) in
      let found = trip_from_count run (min (length bases) 128) trips run.trip some in
      record { is = found.0; runs = found.1 }

  is_there : (run : Instance) (trip : TripLists) → IsRunOf trips run.trip run.day trip → (p : ℕ) × IsIn table p run
  is_there run trip h =
      let inside = slice_get_within trips run.trip trip h.is in
      let same = get_or_from_slice_get trips run.trip trip no_trip h.is in
      let kept = trip_well (length bases) stops (slice_index_or trips run.trip no_trip) (trips_kept (length bases) stops 0 trips well.faultless run.trip no_trip inside) in
      let few = few_days run.trip no_trip inside in
      let has : contains_day (slice_index_or trips run.trip no_trip).days run.day ≡ true = ap (λ (x : TripLists). contains_day x.days run.day) same ∙ h.runs in
      let below_bases = day_below (slice_index_or trips run.trip no_trip).days run.day (length bases) kept.within has in
      let below_all = day_below (slice_index_or trips run.trip no_trip).days run.day 128 few has in
      let one = count_from_trip run (min (length bases) 128) trips run.trip trip h.is h.runs (omega (arith, below_bases, below_all)) in
      let part = some_part (λ (runs : List Instance). sum_by (one_at run) runs) patterns [] (omega (arith, counted run, one)) in
      (part.0, in_from_count run (runs_of table part.0) part.2)

  not_twice : (p q : ℕ) (run : Instance) → IsIn table p run → IsIn table q run → p < q → ⊥
  not_twice p q run at_p at_q lt =
      let both = two_parts (λ (runs : List Instance). sum_by (one_at run) runs) patterns p q [] lt (within q run at_q) in
      omega (arith, both, counts_once p run at_p, counts_once q run at_q, counted run, at_most_one run (min (length bases) 128) trips run.trip)

  one_pattern : (p q : ℕ) (run : Instance) → IsIn table p run → IsIn table q run → p ≡ q
  one_pattern p q run at_p at_q = omega (arith, not_twice p q run at_p at_q, not_twice q p run at_q at_p)

  behind_in : (a b : Instance) → IsBehind (plain_table bases trips) a b → IsBehind table a b
  behind_in a b h = record { departs_later = h.departs_later; arrives_no_earlier = h.arrives_no_earlier }

  pub are_patterns : ArePatterns table
  are_patterns = record {
    some = λ p lt. (are p [] lt).some;
    are_runs = is_run;
    each = is_there;
    once = one_pattern;
    alike = λ p run h. subst (λ (r : Instance). AreAlike (trip_at table (slice_index_or (runs_of table p) 0 no_run).trip) (trip_at table r.trip)) h.2 ((are p [] (within p run h)).alike h.0 run h.1);
    in_turn = λ p lt i j d before inside. behind_in (get_or (runs_of table p) i d) (get_or (runs_of table p) j d) ((are p [] lt).in_turn i j d before inside);
  }

  few_calls : sum_by (λ (runs : List Instance). length (trip_at table (slice_index_or runs 0 no_run).trip).calls) patterns ≤ 2 ^ 32
  few_calls =
      let first : All (λ (runs : List Instance). length (trip_at table (slice_index_or runs 0 no_run).trip).calls ≤ sum_by (calls_of_run trips) runs) patterns =
      λ p d lt. get_or-le-sum_by (calls_of_run trips) (get_or patterns p d) 0 no_run (are p d lt).some in
      let no_more = sum_no_more (λ (runs : List Instance). length (trip_at table (slice_index_or runs 0 no_run).trip).calls) (λ (runs : List Instance). sum_by (calls_of_run trips) runs) patterns first in
      let days : min (length bases) 128 * calls_of trips ≤ 128 * calls_of trips = mul-le-mul_right {m = min (length bases) 128} {n = 128} (calls_of trips) (omega arith) in
      omega (arith, no_more, each_once (calls_of_run trips), all_calls trips (min (length bases) 128), days, well.few_calls)

  pub is_table : IsTable table
  is_table = record { bases = are_bases; trips = well; patterns = are_patterns; few_calls = few_calls }

-- what `build` has made, from what its calls ensure
pub built : (caps : Caps) (bases days_bases : List ℕ) (days stops : ℕ) (trips ruled counted sorted : List TripLists) (patterns : List (List Instance))
    → AreBases bases → days ≡ length bases → ruled ≡ trips → counted ≡ trips → days_bases ≡ bases → sorted ≡ trips
    → table_fault caps days stops ruled ≡ None → All (λ (trip : TripLists). trip.days.0 < 2 ^ 128) counted
    → All (IsPattern (plain_table days_bases sorted)) patterns
    → ((weight : Instance → ℕ) → sum_all weight patterns ≡ sum_by weight (runs_from (min (length days_bases) 128) 0 sorted))
    → IsTable (record { bases = bases; stops = stops; trips = trips; patterns = patterns })
built caps bases days_bases days stops trips ruled counted sorted patterns are_bases is_days is_ruled is_counted is_bases is_sorted none few are once =
    is_table bases stops trips patterns are_bases
    (are_trips caps (length bases) stops trips (subst (λ (n : ℕ). table_fault caps n stops trips ≡ None) is_days (subst (λ (ts : List TripLists). table_fault caps days stops ts ≡ None) is_ruled none)))
    (subst (All (λ (trip : TripLists). trip.days.0 < 2 ^ 128)) is_counted few)
    (subst (λ (bs : List ℕ). All (IsPattern (plain_table bs trips)) patterns) is_bases (subst (λ (ts : List TripLists). All (IsPattern (plain_table days_bases ts)) patterns) is_sorted are))
    (λ weight. subst (λ (bs : List ℕ). sum_all weight patterns ≡ sum_by weight (runs_from (min (length bs) 128) 0 trips)) is_bases
    (subst (λ (ts : List TripLists). sum_all weight patterns ≡ sum_by weight (runs_from (min (length days_bases) 128) 0 ts)) is_sorted (once weight)))

-- rides rest on the trips and the patterns of a table alone
module _ (bases : List ℕ) (stops : ℕ) (trips : List TripLists) (patterns : List (List Instance)) where
  abbrev made : TableLists
  made = record { bases = bases; stops = stops; trips = trips; patterns = patterns }

  same_rides_from : (stop p : ℕ) (rest : List (List Instance)) → rides_from (sorted_table stops trips patterns) stop p rest ≡ rides_from made stop p rest
  same_rides_from stop p [] = refl
  same_rides_from stop p (runs ∷ rest) = ap (λ (rides : List Ride). rides_along p stop 0 (pattern_trip made p).calls ++ rides) (same_rides_from stop (p + 1) rest)

  pub same_rides : (stop : ℕ) → rides_at (sorted_table stops trips patterns) stop ≡ rides_at made stop
  same_rides stop = same_rides_from stop 0 patterns

  same_boards_from : (stop n p : ℕ) (rest : List (List Instance)) → boards_from (sorted_table stops trips patterns) stop n p rest ≡ boards_from made stop n p rest
  same_boards_from stop n p [] = refl
  same_boards_from stop n p (runs ∷ rest) =
      ap (λ (boards : List Board). boards_along p stop n 0 (pattern_trip made p).calls ++ boards) (same_boards_from stop (n + length (rides_along p stop 0 (pattern_trip made p).calls)) (p + 1) rest)

  pub boards_in : (held : List BoardLists) → AreBoards (sorted_table stops trips patterns) held → AreBoards made held
  boards_in held h = record {
    one_each = h.one_each;
    boards = λ stop lt. h.boards stop lt ∙ same_boards_from stop 0 0 patterns;
    rides = λ stop lt. h.rides stop lt ∙ ap length (same_rides stop);
  }

  pub places_in : (places : List (List ℕ)) → AreAlightPlaces (sorted_table 0 trips patterns) places → AreAlightPlaces made places
  places_in places h = record { one_each = h.one_each; are = h.are }
