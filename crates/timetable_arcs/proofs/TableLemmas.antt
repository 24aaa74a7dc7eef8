-- What follows for a timetable from its rules: which runs `next_run` finds, and where rides are.
use Rattle.plan_base.proofs.Common.{◌≡◌, ℕ, ◌^◌, ◌<◌, ◌≤◌, List, [], length, Option, Some, None, true, false, Bool, nat_lt, nat_le, refl, ap, sym, subst, ◌∙◌, ◌⊎◌, inl, inr, arith, lit<, slice_get, slice_index_or, slice_index, Contains, All, position_or_len, le_trans, ltb-true, ltb-false, leb-true, leb-false, le-leb, IsNonDecreasingBy, get_or_past, get_or_default, Contains-get_or, All-from_get_or, slice_get_within, slice_get-get_or, get_or_from_slice_get, none-some}
use Rattle.timetable_arcs.specs.{Call, Instance, Ride, TableLists, trip_at, runs_of, pattern_trip, arrives, departs, next_run, last_run, no_run, no_trip, no_call, IsIn, rides_at, IsRideAt, IsNextRun, IsLastBy, IsLastRun, IsTable}
use Rattle.timetable_arcs.proofs.{RideLemmas.all_fit, RideLemmas.each_there, RideLemmas.at_few, TripLemmas.IsKeptTrip, TripLemmas.trips_kept, TripLemmas.trip_well, TripLemmas.trip_short, TripLemmas.known_stops, TripLemmas.on_from, TripLemmas.on_later, TripLemmas.both_true, TripLemmas.sum_at_least, RunLemmas.found_at, RunLemmas.found_nowhere, RunLemmas.found_no_later, RunLemmas.in_order, RunLemmas.IsNoLater, RunLemmas.last_is, RunLemmas.last_none, RunLemmas.IsLastPassing, RunLemmas.NonePasses}

module _ (t : TableLists) (table : IsTable t) where
  pub next_is : (p call time : ℕ) (run : Instance) → next_run t p call time ≡ Some run → IsIn t p run × (time ≤ departs t run call)
  next_is p call time run e =
      let at = found_at (λ (r : Instance). nat_le time (departs t r call)) (runs_of t p) run e in
      ((position_or_len (λ (r : Instance). nat_le time (departs t r call)) (runs_of t p), at.within, at.is), leb-true _ _ at.passes)

  pub next_none : (p call time : ℕ) (run : Instance) → next_run t p call time ≡ None → IsIn t p run → departs t run call < time
  next_none p call time run e is_in = leb-false _ _ (found_nowhere (λ (r : Instance). nat_le time (departs t r call)) (runs_of t p) e run is_in)

  -- of the runs that depart at a call at a time or later, none is before the one that is found
  pub next_first : (p call time : ℕ) (run later : Instance) → call < length (pattern_trip t p).calls → next_run t p call time ≡ Some run
      → IsIn t p later → time ≤ departs t later call → (k : ℕ) → k < length (pattern_trip t p).calls → arrives t run k ≤ arrives t later k
  next_first p call time run later inside e (j, within, is) in_time k h =
      let test : Instance → Bool = λ r. nat_le time (departs t r call) in
      let at = found_at test (runs_of t p) run e in
      let le = found_no_later test (runs_of t p) run later j e is (le-leb _ _ in_time) in
      (in_order t table.patterns p (position_or_len test (runs_of t p)) j run later at.is is le within k h).arrives

  pub next_earliest : (p call time : ℕ) (run later : Instance) → call < length (pattern_trip t p).calls → next_run t p call time ≡ Some run
      → IsIn t p later → time ≤ departs t later call → departs t run call ≤ departs t later call
  next_earliest p call time run later inside e (j, within, is) in_time =
      let test : Instance → Bool = λ r. nat_le time (departs t r call) in
      let at = found_at test (runs_of t p) run e in
      let le = found_no_later test (runs_of t p) run later j e is (le-leb _ _ in_time) in
      (in_order t table.patterns p (position_or_len test (runs_of t p)) j run later at.is is le within call inside).departs

  -- a later time finds no earlier run
  pub next_rises : (p call s time : ℕ) (a b : Instance) → call < length (pattern_trip t p).calls → s ≤ time
      → next_run t p call s ≡ Some a → next_run t p call time ≡ Some b → (k : ℕ) → k < length (pattern_trip t p).calls → arrives t a k ≤ arrives t b k
  next_rises p call s time a b inside le at_s at_time k h =
      let found = next_is p call time b at_time in
      next_first p call s a b inside at_s found.0 (le_trans le found.1) k h

  pub next_stays : (p call s time : ℕ) → s ≤ time → next_run t p call s ≡ None → next_run t p call time ≡ None
  next_stays p call s time le none = by_found (next_run t p call time) refl
    where
      by_found : (o : Option Instance) → next_run t p call time ≡ o → o ≡ None
      by_found None e = refl
      by_found (Some run) e =
          let found = next_is p call time run e in
          let before = next_none p call s run none found.0 in
          let late : time ≤ departs t run call = found.1 in
          absurd (omega arith)

  -- along a pattern neither departures nor arrivals fall
  no_later : (p call : ℕ) → call < length (pattern_trip t p).calls → (i j : ℕ) (d : Instance) → i ≤ j → j < length (runs_of t p)
      → IsNoLater t table.patterns p (slice_index_or (runs_of t p) i d) (slice_index_or (runs_of t p) j d) call
  no_later p call inside i j d le within =
      in_order t table.patterns p i j (slice_index_or (runs_of t p) i d) (slice_index_or (runs_of t p) j d)
      (get_or_default (runs_of t p) i (slice_index_or (runs_of t p) i d) d (omega arith)) (get_or_default (runs_of t p) j (slice_index_or (runs_of t p) j d) d within) le within call inside

  pub departs_rise : (p call : ℕ) → call < length (pattern_trip t p).calls → IsNonDecreasingBy (λ run. departs t run call) (runs_of t p)
  departs_rise p call inside i j d le within = (no_later p call inside i j d le within).departs

  pub arrives_rise : (p call : ℕ) → call < length (pattern_trip t p).calls → IsNonDecreasingBy (λ run. arrives t run call) (runs_of t p)
  arrives_rise p call inside i j d le within = (no_later p call inside i j d le within).arrives

  pub next_in_words : (p call time : ℕ) (found : Option Instance) → call < length (pattern_trip t p).calls → next_run t p call time ≡ found → IsNextRun t p call time found
  next_in_words p call time None inside e = λ run is_in. next_none p call time run e is_in
  next_in_words p call time (Some run) inside e =
      let is = next_is p call time run e in
      record { is_in = is.0; in_time = is.1; first = λ other is_in late. next_earliest p call time run other inside e is_in late }

  pub last_in_words : (p call time : ℕ) (found : Option Instance) → call < length (pattern_trip t p).calls → last_run t p call time ≡ found → IsLastRun t p call time found
  last_in_words p call time None inside e = all_late
    where
      all_late : (run : Instance) → IsIn t p run → time < arrives t run call
      all_late run (k, within, is) =
          let fails = (last_none t call time (runs_of t p) None e).1 k run within in
          leb-false (arrives t run call) time (ap (λ (r : Instance). nat_le (arrives t r call) time) (sym is) ∙ fails)
  last_in_words p call time (Some run) inside e = on_place (last_is t call time (runs_of t p) None run e)
    where
      on_place : ((None ≡ Some run) × NonePasses t call time (runs_of t p)) ⊎ ((k : ℕ) × IsLastPassing t call time (runs_of t p) run k) → IsLastBy t p call time run
      on_place (inl none) = absurd (none-some run none.0)
      on_place (inr (k, h)) = record {
        is_in = (k, h.within, h.is);
        in_time = leb-true (arrives t run call) time h.passes_there;
        last = no_later_run;
      }
        where
          no_later_run : (other : Instance) → IsIn t p other → arrives t other call ≤ time → departs t other call ≤ departs t run call
          no_later_run other (j, within, is) early = by_place (nat_lt k j) refl
            where
              by_place : (b : Bool) → nat_lt k j ≡ b → departs t other call ≤ departs t run call
              by_place true lt =
                  let fails = h.fails j other (ltb-true k j lt) within in
                  let late = leb-false (arrives t other call) time (ap (λ (r : Instance). nat_le (arrives t r call) time) (sym is) ∙ fails) in
                  absurd (omega (arith, late, early))
              by_place false le = (in_order t table.patterns p j k other run is h.is (ltb-false k j le) h.within call inside).departs

  -- the trip of a run that a pattern has breaks no rule
  pub trip_of_run : (p : ℕ) (run : Instance) → IsIn t p run → IsKeptTrip (length t.bases) t.stops (trip_at t run.trip)
  trip_of_run p run h =
      let is = (table.patterns.are_runs p run h).is in
      trips_kept (length t.bases) t.stops 0 t.trips table.trips.faultless run.trip no_trip (slice_get_within t.trips run.trip (trip_at t run.trip) is)

  pub first_is_in : (p : ℕ) → p < length t.patterns → IsIn t p (slice_index_or (runs_of t p) 0 no_run)
  first_is_in p h = Contains-get_or (runs_of t p) 0 no_run (table.patterns.some p h)

  -- the trip of a pattern breaks no rule
  pub trip_of_pattern : (p : ℕ) → p < length t.patterns → IsKeptTrip (length t.bases) t.stops (pattern_trip t p)
  trip_of_pattern p h = trip_of_run p (slice_index_or (runs_of t p) 0 no_run) (first_is_in p h)

  pub pattern_short : (p : ℕ) → length (pattern_trip t p).calls < 2 ^ 32
  pattern_short p = let short = trip_short (length t.bases) t.stops t.trips table.trips (slice_index_or (runs_of t p) 0 no_run).trip in omega (arith, short)

  pub pattern_stops : (p : ℕ) → p < length t.patterns → All (λ (call : Call). call.stop < t.stops) (pattern_trip t p).calls
  pattern_stops p h = known_stops t.stops (pattern_trip t p) (trip_of_pattern p h).known

  pub patterns_few : length t.patterns ≤ 2 ^ 31
  patterns_few =
      let calls : List Instance → ℕ = λ runs. length (trip_at t (slice_index_or runs 0 no_run).trip).calls in
      let two : All (λ (runs : List Instance). 2 ≤ calls runs) t.patterns =
      All-from_get_or (λ (runs : List Instance). 2 ≤ calls runs) t.patterns [] (λ p lt. (trip_well _ _ _ (trip_of_pattern p lt)).two_calls) in
      omega (arith, sum_at_least calls 2 t.patterns two, table.few_calls)

  base_small : (day : ℕ) → slice_index t.bases day < 2 ^ 40
  base_small day = by_place (nat_lt day (length t.bases)) refl
    where
      by_place : (b : Bool) → nat_lt day (length t.bases) ≡ b → slice_index t.bases day < 2 ^ 40
      by_place true h = table.bases.small day 0 (ltb-true _ _ h)
      by_place false h = rw (get_or_past t.bases day 0 (ltb-false _ _ h)) (lit< tt)

  pub arrives_small : (p call : ℕ) (run : Instance) → IsIn t p run → call < length (trip_at t run.trip).calls → arrives t run call < 2 ^ 41
  arrives_small p call run h inside =
      let held : Call = slice_index_or (trip_at t run.trip).calls call no_call in
      let early = both_true (nat_le held.arr 604799) (nat_le held.dep 604799) ((trip_well _ _ _ (trip_of_run p run h)).early call no_call inside) in
      omega (arith, leb-true held.arr 604799 early.0, base_small run.day)

  pub departs_small : (p call : ℕ) (run : Instance) → IsIn t p run → call < length (trip_at t run.trip).calls → departs t run call < 2 ^ 41
  departs_small p call run h inside =
      let held : Call = slice_index_or (trip_at t run.trip).calls call no_call in
      let early = both_true (nat_le held.arr 604799) (nat_le held.dep 604799) ((trip_well _ _ _ (trip_of_run p run h)).early call no_call inside) in
      omega (arith, leb-true held.dep 604799 early.1, base_small run.day)

  -- a run arrives at a later call no earlier than it departs from an earlier one, and waits at each
  pub never_back : (p : ℕ) (run : Instance) → IsIn t p run → (i j : ℕ) → i < j → j < length (trip_at t run.trip).calls → departs t run i ≤ arrives t run j
  never_back p run h i j lt within =
      let later = on_later 0 (trip_at t run.trip).calls (trip_of_run p run h).goes_on i j no_call lt within in
      omega (arith, later)

  pub waits_there : (p : ℕ) (run : Instance) → IsIn t p run → (k : ℕ) → k < length (trip_at t run.trip).calls → arrives t run k ≤ departs t run k
  waits_there p run h k within =
      let here = (on_from 0 (trip_at t run.trip).calls (trip_of_run p run h).goes_on k no_call within).1 in
      omega (arith, here)

  pub ride_fits : (stop i : ℕ) (ride : Ride) → slice_get (rides_at t stop) i ≡ Some ride → IsRideAt t stop ride
  ride_fits stop i ride e =
      subst (IsRideAt t stop) (get_or_from_slice_get (rides_at t stop) i ride ride e) (all_fit t stop i ride (slice_get_within (rides_at t stop) i ride e))

  pub ride_there : (stop : ℕ) (ride : Ride) → IsRideAt t stop ride → (i : ℕ) × (i < length (rides_at t stop)) × (slice_get (rides_at t stop) i ≡ Some ride)
  ride_there stop ride h = placed (each_there t stop ride h)
    where
      placed : Contains (rides_at t stop) ride → (i : ℕ) × (i < length (rides_at t stop)) × (slice_get (rides_at t stop) i ≡ Some ride)
      placed (i, within, is) = (i, within, slice_get-get_or (rides_at t stop) i ride within ∙ ap Some is)

  pub rides_few : (stop : ℕ) → length (rides_at t stop) < 2 ^ 63
  rides_few stop =
      let few = at_few t stop (2 ^ 25) (trip_short (length t.bases) t.stops t.trips table.trips) in
      omega (arith, few, table.few_calls)
