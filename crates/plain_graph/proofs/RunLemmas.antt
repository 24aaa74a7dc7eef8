-- The run that a ride takes is one of the timetable.
use Rattle.plan_base.proofs.Common.{◌≡◌, ℕ, ◌<◌, ◌≤◌, ◌^◌, ◌%◌, length, Bool, true, false, nat_lt, Some, refl, ap, subst, arith, lit<, All, slice_get, bit_at, div-eq_of_lt, pow-le-pow_right, ltb-true, ltb-false, All-from_get_or, slice_get_within, get_or_from_slice_get}
use Rattle.plan_base.specs.{DaySet, contains_day}
use Rattle.timetable_arcs.specs.{Call, Instance, Board, Ride, TableLists, IsIn, AreAlike, trip_at, runs_of, pattern_trip, no_call, IsTable}
use Rattle.timetable_arcs.proofs.{RideLemmas.IsBoardOf, TripLemmas.trip_well, TripLemmas.known_stops, TableLemmas.trip_of_run, TableLemmas.trip_of_pattern, TableLemmas.next_is, TableLemmas.pattern_short}
use Rattle.mode_network.specs.{NetworkLists.NetworkLists, IsNetwork, IsTimetableOf}
use Rattle.plain_graph.specs.{run_at, pattern_call, IsRideOf}

-- a set of days below so many has no later one
day_within : (set : DaySet) (days day : ℕ) → set.0 < 2 ^ days → contains_day set day ≡ true → day < days
day_within set days day few has = on_test (nat_lt day days) refl
  where
    on_test : (b : Bool) → nat_lt day days ≡ b → day < days
    on_test true e = ltb-true day days e
    on_test false e =
        let more : 2 ^ days ≤ 2 ^ day = pow-le-pow_right {n = 2} (lit< tt) {i = days} {j = day} (ltb-false day days e) in
        let below : set.0 < 2 ^ day = omega (arith, few, more) in
        let none = div-eq_of_lt below in
        let bit : bit_at set.0 day ≡ 0 = ap (λ q. q % 2) none in
        let no : contains_day set day ≡ false = rw bit refl in
        cc

-- the trip, the day and the call at which a ride ends are there
pub record IsThere (t : TableLists) (ride : Ride) (run : Instance) : Type 0 where
  pub trip : run.trip < length t.trips
  pub day : run.day < length t.bases
  pub call : ride.alight < length (trip_at t run.trip).calls

pub is_there : (t : TableLists) → IsTable t → (ride : Ride) (run : Instance) → IsIn t ride.pattern run → ride.alight < length (pattern_trip t ride.pattern).calls → IsThere t ride run
is_there t table ride run is_in within =
    let held = table.patterns.are_runs ride.pattern run is_in in
    let well = trip_well (length t.bases) t.stops (trip_at t run.trip) (trip_of_run t table ride.pattern run is_in) in
    let calls = (table.patterns.alike ride.pattern run is_in).calls in
    record {
      trip = slice_get_within t.trips run.trip (trip_at t run.trip) held.is;
      day = day_within (trip_at t run.trip).days (length t.bases) run.day well.within held.runs;
      call = omega (arith, calls, within);
    }

pub run_there : (t : TableLists) → IsTable t → (ride : Ride) → IsRideOf t ride → (time : ℕ) (run : Instance) → run_at t time ride ≡ Some run → IsThere t ride run
run_there t table ride is time run e = is_there t table ride run (next_is t table ride.pattern ride.board time run e).0 is.within

-- a call of a pattern is at a stop of the network
pub call_at_stop : (n : NetworkLists) → IsNetwork n → (t : TableLists) → IsTable t → IsTimetableOf n t → (p call : ℕ) → p < length t.patterns → call < length (pattern_trip t p).calls
    → (pattern_call t p call).stop < length n.stop_names
call_at_stop n network t table of p call pattern within =
    let known = known_stops t.stops (pattern_trip t p) (trip_of_pattern t table p pattern).known in
    let few = known call no_call within in
    omega (arith, few, of.stops, network.parts.one_name_each)

-- a ride ends at a stop of the network
pub ends_at_stop : (n : NetworkLists) → IsNetwork n → (t : TableLists) → IsTable t → IsTimetableOf n t → (ride : Ride) → IsRideOf t ride
    → (pattern_call t ride.pattern ride.alight).stop < length n.stop_names
ends_at_stop n network t table of ride is = call_at_stop n network t table of ride.pattern ride.alight is.pattern is.within

-- what is known of a run of a pattern
pub record IsKnownRun (n : NetworkLists) (t : TableLists) (p : ℕ) (run : Instance) : Type 0 where
  pub trip : run.trip < length t.trips
  pub day : run.day < length t.bases
  pub alike : AreAlike (pattern_trip t p) (trip_at t run.trip)
  pub few : length (trip_at t run.trip).calls < 2 ^ 32
  pub stops : All (λ call. call.stop < length n.stop_names) (trip_at t run.trip).calls

pub run_known : (n : NetworkLists) → IsNetwork n → (t : TableLists) → IsTable t → IsTimetableOf n t → (board : Board) (place : ℕ) (run : Instance) → IsBoardOf t board
    → slice_get (runs_of t board.pattern) place ≡ Some run → IsKnownRun n t board.pattern run
run_known n network t table of board place run is at =
    let p = board.pattern in
    let is_in : IsIn t p run = (place, slice_get_within (runs_of t p) place run at, get_or_from_slice_get (runs_of t p) place run run at) in
    let there = is_there t table (record { pattern = p; board = 0; alight = board.call }) run is_in is.call in
    let alike = table.patterns.alike p run is_in in
    let short = pattern_short t table p in
    record {
      trip = there.trip;
      day = there.day;
      alike = alike;
      few = omega (arith, short, alike.calls);
      stops = All-from_get_or (λ (call : Call). call.stop < length n.stop_names) (trip_at t run.trip).calls no_call (λ k lt.
          let inside : k < length (pattern_trip t p).calls = omega (arith, lt, alike.calls) in
          subst (λ (stop : ℕ). stop < length n.stop_names) (alike.each k no_call inside).stop (call_at_stop n network t table of p k is.pattern inside));
    }
