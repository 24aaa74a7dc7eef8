-- What is true of the rides that a network's runs allow.
use Rattle.plan_base.proofs.Common.{◌≡◌, ℕ, ◌<◌, ◌^◌, length, Some, true, false, Bool, nat_lt, refl, ap, subst, arith, List, Option, None, slice_get, option_map, option_and_then, leb-true, ltb-true, ltb-false, eqb-true, bit_at_above, bit_at, slice_get_within, get_or_from_slice_get}
use Rattle.plan_base.specs.{DaySet, contains_day}
use Rattle.service_days.specs.{numbers_of}
use Rattle.timetable_arcs.specs.{Call, TripLists, IsRunOf, arrival_of, is_early}
use Rattle.timetable_arcs.proofs.TripLemmas.{IsKeptTrip, trips_kept, trip_well, known_stops, both_true}
use Rattle.mode_network.specs.{NetworkLists.NetworkLists, IsNetwork, Ride, IsStep}
use Rattle.mode_network.proofs.RuleLemmas.{some_is}
use Rattle.journey.specs.{AllowedRide, NamedRide, KeepsRules, IsAllowed, letter_and_stop}

-- a set of days that is below a power of two has no day from its exponent on
day_below : (days : DaySet) (day k : ℕ) → days.0 < 2 ^ k → contains_day days day ≡ true → day < k
day_below days day k lt has = by_place (nat_lt day k) refl
  where
    by_place : (b : Bool) → nat_lt day k ≡ b → day < k
    by_place true e = ltb-true day k e
    by_place false e =
        let none = bit_at_above days.0 k day lt (ltb-false day k e) in
        let one = eqb-true (bit_at days.0 day) 1 has in
        absurd (omega (arith, none, one))

-- a trip of the network breaks no rule
pub kept_trip : (n : NetworkLists) → IsNetwork n → (place : ℕ) (trip : TripLists) → slice_get n.trips place ≡ Some trip → IsKeptTrip (length n.days.bases) (length n.stops) trip
kept_trip n network place trip is =
    subst (IsKeptTrip (length n.days.bases) (length n.stops)) (get_or_from_slice_get n.trips place trip trip is)
    (trips_kept (length n.days.bases) (length n.stops) 0 n.trips network.trips_fit.faultless place trip (slice_get_within n.trips place trip is))

-- each call is at a stop, which has a name
pub call_named : (n : NetworkLists) → IsNetwork n → (place : ℕ) (trip : TripLists) → slice_get n.trips place ≡ Some trip
    → (k : ℕ) (call : Call) → slice_get trip.calls k ≡ Some call → call.stop < length n.stop_names
call_named n network place trip is k call at =
    let known = known_stops (length n.stops) trip (kept_trip n network place trip is).known k call (slice_get_within trip.calls k call at) in
    let named = subst (λ (c : Call). c.stop < length n.stops) (get_or_from_slice_get trip.calls k call call at) known in
    omega (arith, named, network.parts.one_name_each)

-- the days of a run are the region's
pub run_within : (n : NetworkLists) → KeepsRules n → (place day : ℕ) (trip : TripLists) → IsRunOf n.trips place day trip → day < numbers_of n.days
run_within n rules place day trip run =
    let well = trip_well (length n.days.bases) (length n.stops) trip (kept_trip n rules.network place trip run.is) in
    let below = day_below trip.days day (length n.days.bases) well.within run.runs in
    omega (arith, below, rules.days.bases_long)

-- a run arrives soon
pub arrives_soon : (n : NetworkLists) → KeepsRules n → (place day : ℕ) (trip : TripLists) → IsRunOf n.trips place day trip
    → (k : ℕ) (call : Call) → slice_get trip.calls k ≡ Some call → arrival_of n.days.bases day call < 2 ^ 41
arrives_soon n rules place day trip run k call at =
    let well = trip_well (length n.days.bases) (length n.stops) trip (kept_trip n rules.network place trip run.is) in
    let each = well.early k call (slice_get_within trip.calls k call at) in
    let early = subst (λ (c : Call). is_early c ≡ true) (get_or_from_slice_get trip.calls k call call at) each in
    let arr = leb-true call.arr 604799 (both_true _ _ early).0 in
    let small = rules.order.bases_small day (run_within n rules place day trip run) in
    omega (arith, arr, small)

-- the day of a ride that a run allows, and the stops at which it boards and alights, are there
pub record AreThere (n : NetworkLists) (day : ℕ) (ride : AllowedRide) : Type 0 where
  pub day_there : day < numbers_of n.days
  pub on : ride.on.stop < length n.stop_names
  pub off : ride.off.stop < length n.stop_names

pub allowed_there : (n : NetworkLists) → KeepsRules n → (trips : List TripLists) → trips ≡ n.trips → (named : NamedRide) (ride : AllowedRide)
    → IsAllowed trips named (Some ride) → AreThere n named.day ride
allowed_there n rules trips same named ride allowed =
    let is = subst (λ (ts : List TripLists). IsAllowed ts named (Some ride)) same allowed in
    record {
      day_there = run_within n rules named.trip named.day is.0 is.1.run;
      on = call_named n rules.network named.trip is.0 is.1.run.is named.board ride.on is.1.on_is;
      off = call_named n rules.network named.trip is.0 is.1.run.is named.alight ride.off is.1.off_is;
    }

-- where the run allows none, the step is none
pub no_ride : (n : NetworkLists) (trips : List TripLists) → trips ≡ n.trips → (v t : ℕ) (named : NamedRide) → IsAllowed trips named None
    → (w u : ℕ) (letter : Option ℕ) → IsStep n v t (Ride named.trip named.day named.board named.alight) w u letter → ⊥
no_ride n trips same v t named none w u letter (run, on, off, ride, at, soon, there, then, read) =
    subst (λ (ts : List TripLists). IsAllowed ts named None) same none run on off ride

-- the stop of a trip's call has a name
pub stop_named : (n : NetworkLists) → IsNetwork n → (trips : List TripLists) → trips ≡ n.trips → (place k letter stop : ℕ)
    → letter_and_stop trips place k ≡ Some (letter, stop) → stop < length n.stop_names
stop_named n network trips same place k letter stop e = on_trip (slice_get n.trips place) refl (subst (λ (ts : List TripLists). letter_and_stop ts place k ≡ Some (letter, stop)) same e)
  where
    on_call : (trip : TripLists) → slice_get n.trips place ≡ Some trip → (o : Option Call) → slice_get trip.calls k ≡ o
        → option_map {U = ℕ × ℕ} (λ (call : Call). (trip.letter, call.stop)) o ≡ Some (letter, stop) → stop < length n.stop_names
    on_call trip is None at e = cc
    on_call trip is (Some call) at e =
        let named = call_named n network place trip is k call at in
        let same_stop : call.stop ≡ stop = ap (λ (x : ℕ × ℕ). x.1) (some_is e) in
        subst (λ (s : ℕ). s < length n.stop_names) same_stop named

    on_trip : (o : Option TripLists) → slice_get n.trips place ≡ o
        → option_and_then (λ (trip : TripLists). option_map {U = ℕ × ℕ} (λ (call : Call). (trip.letter, call.stop)) (slice_get trip.calls k)) o ≡ Some (letter, stop) → stop < length n.stop_names
    on_trip None is e = cc
    on_trip (Some trip) is e = on_call trip is (slice_get trip.calls k) refl e
