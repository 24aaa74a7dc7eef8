-- The runs of a pattern: where they are, and which of two is no later.
use Rattle.plan_base.proofs.Common.{◌≡◌, ℕ, ◌<◌, ◌≤◌, ◌^◌, ◌%◌, length, Bool, true, false, nat_lt, refl, ap, sym, subst, ◌∙◌, arith, slice_index_or, get_or_default, lit<, bit_at, div-eq_of_lt, pow-le-pow_right, ltb-true, ltb-false, slice_get_within}
use Rattle.plan_base.specs.{DaySet, contains_day}
use Rattle.timetable_arcs.specs.{Instance, TableLists, IsIn, trip_at, runs_of, pattern_trip, departs, IsBehind, IsTable}
use Rattle.timetable_arcs.proofs.{TripLemmas.trip_well, TableLemmas.trip_of_run, RunLemmas.within_patterns, RunLemmas.in_order}
use Rattle.ride_passes.specs.inside.{IsNoLater}

-- a set of days below so many has no later one
day_within : (set : DaySet) (days day : ℕ) → set.0 < 2 ^ days → contains_day set day ≡ true → day < days
day_within set days day few has = on_test (nat_lt day days) refl
  where
    on_test : (b : Bool) → nat_lt day days ≡ b → day < days
    on_test true e = ltb-true day days e
    on_test false e =
        let more : 2 ^ days ≤ 2 ^ day = pow-le-pow_right {n = 2} (lit< tt) {i = days} {j = day} (ltb-false day days e) in
        let below : set.0 < 2 ^ day = omega (arith, few, more) in
        let none = div-eq_of_lt below in
        let bit : bit_at set.0 day ≡ 0 = ap (λ q. q % 2) none in
        let no : contains_day set day ≡ false = rw bit refl in
        cc

-- the trip and the day of a run, and a call of it, are there
pub record IsThere (t : TableLists) (run : Instance) (call : ℕ) : Type 0 where
  pub trip : run.trip < length t.trips
  pub day : run.day < length t.bases
  pub within : call < length (trip_at t run.trip).calls

module _ (t : TableLists) (table : IsTable t) (p : ℕ) where
  pub run_there : (run : Instance) → IsIn t p run → (call : ℕ) → call < length (pattern_trip t p).calls → IsThere t run call
  run_there run is_in call within =
      let held = table.patterns.are_runs p run is_in in
      let well = trip_well (length t.bases) t.stops (trip_at t run.trip) (trip_of_run t table p run is_in) in
      let calls = (table.patterns.alike p run is_in).calls in
      record {
        trip = slice_get_within t.trips run.trip (trip_at t run.trip) held.is;
        day = day_within (trip_at t run.trip).days (length t.bases) run.day well.within held.runs;
        within = omega (arith, calls, within);
      }

  -- of two runs the one that departs first from some call is no later at any
  pub no_later_by : (run other : Instance) → IsIn t p run → IsIn t p other → (call : ℕ) → call < length (pattern_trip t p).calls
      → departs t run call ≤ departs t other call → IsNoLater t p run other
  no_later_by run other (i, within_i, at_i) (j, within_j, at_j) call within le = on_test (nat_lt j i) refl
    where
      -- where the other stands before it, it departs earlier from each call
      behind : j < i → IsBehind t other run
      behind lt =
          subst (λ (x : Instance). IsBehind t x run) at_j
          (subst (λ (y : Instance). IsBehind t (slice_index_or (runs_of t p) j other) y) (sym (get_or_default (runs_of t p) i run other within_i) ∙ at_i)
          (table.patterns.in_turn p (within_patterns t table.patterns p run (i, within_i, at_i)) j i other lt within_i))

      on_test : (b : Bool) → nat_lt j i ≡ b → IsNoLater t p run other
      on_test true e =
          let calls = (table.patterns.alike p other (j, within_j, at_j)).calls in
          let later = (behind (ltb-true j i e)).departs_later call (omega (arith, calls, within)) in
          absurd (omega (arith, later, le))
      on_test false e = record {
        arrival = λ k lt. (in_order t table.patterns p i j run other at_i at_j (ltb-false j i e) within_j k lt).arrives;
        departure = λ k lt. (in_order t table.patterns p i j run other at_i at_j (ltb-false j i e) within_j k lt).departs;
      }
