-- No journey that leaves within the window is better than what is listed.
use Rattle.plan_base.proofs.Common.{◌≡◌, ℕ, zero, suc, ◌+◌, ◌-◌, ◌<◌, ◌≤◌, ◌⊎◌, List, [], ◌∷◌, length, Option, Some, None, inl, inr, refl, ap, subst, arith, Contains, slice_index_or, All-contains, get_or_from_slice_get, slice_get_within}
use Rattle.timetable_arcs.specs.{Call, TripLists, IsRide, arrival_of, departure_of}
use Rattle.timetable_arcs.proofs.TripLemmas.{IsKeptTrip, trips_kept, on_later}
use Rattle.mode_network.specs.{Step, Wait, Link, Stand, Ride, IsNetwork, Route, IsStep, AreSteps, declared.steps.Step.TheVariants.Road, NetworkLists.NetworkLists}
use Rattle.journey.specs.{Asked, Answers}
use Rattle.few_boardings.specs.{rides}
use Rattle.departures.specs.{Pair, IsPair, IsUndominated, IsWithout, IsShorter, IsListed, AreDepartures, first_from, IsAsLong, IsBeforeOthers, IsNoEarlier, DeparturesMissNothing}
use Rattle.latest_departure.proofs.OrderLemmas.{le_or_above}
use Rattle.departures.proofs.{OrderLemmas.shorter_or_long, OrderLemmas.long_or_not, OrderLemmas.long_around, OrderLemmas.same_or_less, MovedLemmas.without_long, ListLemmas.IsFirstFrom, ListLemmas.is_first}

module _ (n : NetworkLists) (network : IsNetwork n) where
  -- a ride alights no earlier than it departs
  ride_rises : (trip day board alight : ℕ) (run : TripLists) (on off : Call) → IsRide n.trips trip day board alight run on off
      → departure_of n.days.bases day on ≤ arrival_of n.days.bases day off
  ride_rises trip day board alight run on off ride =
      let kept = subst (IsKeptTrip (length n.days.bases) (length n.stops)) (get_or_from_slice_get n.trips trip run run ride.run.is)
      (trips_kept (length n.days.bases) (length n.stops) 0 n.trips network.trips_fit.faultless trip run (slice_get_within n.trips trip run ride.run.is)) in
      let boards : slice_index_or run.calls board on ≡ on = get_or_from_slice_get run.calls board on on ride.on_is in
      let alights : slice_index_or run.calls alight on ≡ off = get_or_from_slice_get run.calls alight off on ride.off_is in
      let order = on_later 0 run.calls kept.goes_on board alight on ride.later (slice_get_within run.calls alight off ride.off_is) in
      let dep = ap (λ (call : Call). call.dep) boards in
      let arr = ap (λ (call : Call). call.arr) alights in
      omega arith

  step_rises : (v t : ℕ) (step : Step) (w u : ℕ) (letter : Option ℕ) → IsStep n v t step w u letter → t ≤ u
  step_rises v t (Wait until) w u letter (later, same, now, none) = omega arith
  step_rises v t (Road to) w u letter (ms, leads, there, then, is) = omega arith
  step_rises v t (Link to) w u letter (ms, leads, there, then, is) = omega arith
  step_rises v t Stand w u letter (mode, is, same, now, some) = omega arith
  step_rises v t (Ride trip day board alight) w u letter (run, on, off, ride, from, later, to, then, some) =
      let rises = ride_rises trip day board alight run on off ride in omega arith

  pub steps_rise : (v t : ℕ) (steps : List Step) (w u : ℕ) (letters : List ℕ) → AreSteps n v t steps w u letters → t ≤ u
  steps_rise v t [] w u letters (there, now, none) = omega arith
  steps_rise v t (step ∷ steps) w u letters (v1, t1, c, rest, is, more, e) =
      let first = step_rises v t step v1 t1 c is in let after = steps_rise v1 t1 steps w u rest more in omega arith

  module _ (q : Asked) where
    pub pair_rises : (p : Pair) → IsPair n q p → p.depart ≤ p.arrive
    pair_rises p (j, is) =
        let real = is.answers.real in
        let rises = steps_rise j.start j.at j.steps is.answers.end p.arrive real.letters real.steps in
        let at = is.departs in omega arith

    -- it can not be that no undominated pair departs as late and arrives as early as a pair; there are at most as many better pairs as the measure says
    not_none : (measure t u : ℕ) → ((o : Pair) → IsUndominated n q o → t ≤ o.depart → o.arrive ≤ u → ⊥) → (p : Pair) → IsPair n q p → t ≤ p.depart → p.arrive ≤ u
        → p.arrive + (u - p.depart) ≤ measure → ⊥
    not_none zero t u none p is late soon few = none p (record { pair = is; alone = λ o other as_late as_early. alone o (same_or_less u p o as_late as_early (pair_rises o other) soon) }) late soon
      where
        alone : (o : Pair) → (o ≡ p) ⊎ (o.arrive + (u - o.depart) < p.arrive + (u - p.depart)) → o ≡ p
        alone o (inl same) = same
        alone o (inr less) = absurd (omega arith)
    not_none (suc measure) t u none p is late soon few =
        none p (record {
          pair = is;
          alone = λ o other as_late as_early. alone o (same_or_less u p o as_late as_early (pair_rises o other) soon)
              (λ less. not_none measure t u none o other (omega arith) (omega arith) (omega arith));
        }) late soon
      where
        alone : (o : Pair) → (o ≡ p) ⊎ (o.arrive + (u - o.depart) < p.arrive + (u - p.depart)) → (o.arrive + (u - o.depart) < p.arrive + (u - p.depart) → ⊥) → o ≡ p
        alone o (inl same) better = same
        alone o (inr less) better = absurd (better less)

    module _ (c : Option ℕ) (window : ℕ) (pairs : List Pair) (without : IsWithout n q c) (are : AreDepartures n q c window pairs) (k : Route) (u : ℕ) (answers : Answers n q k u) where
      -- where each undominated pair that is as good as the journey is impossible, the journey has no ride, and so takes as long as one without does
      has_long : ((o : Pair) → IsUndominated n q o → k.at ≤ o.depart → o.arrive ≤ u → ⊥) → IsAsLong c k.at u
      has_long none = on_rides (le_or_above (rides k) 0)
        where
          on_rides : (rides k ≤ 0) ⊎ (0 < rides k) → IsAsLong c k.at u
          on_rides (inl few) = without_long n q c without k u (omega arith) answers
          on_rides (inr some) =
              let p : Pair = record { depart = k.at; arrive = u } in
              absurd (not_none (u + (u - k.at)) k.at u none p (k, record { answers = answers; departs = refl; rides = some }) (omega arith) (omega arith) (omega arith))

      -- an undominated pair within the window that is as good is listed, or takes as long as without a ride
      listed_or_long : (o : Pair) → IsUndominated n q o → k.at ≤ o.depart → o.arrive ≤ u → o.depart < q.depart + window → Contains pairs o ⊎ IsAsLong c k.at u
      listed_or_long o best late soon within = on_time (shorter_or_long c o)
        where
          on_time : IsShorter c o ⊎ IsAsLong c o.depart o.arrive → Contains pairs o ⊎ IsAsLong c k.at u
          on_time (inl shorter) = inl (are.whole o (record { undominated = best; within = within; shorter = shorter }))
          on_time (inr long) = inr (long_around c k.at o.depart o.arrive u late soon long)

      no_earlier : (row : Option Pair) → IsFirstFrom k.at pairs row → IsNoEarlier n q c window k.at u row
      no_earlier (Some row) (held, late, first) = on_cases (le_or_above row.arrive u) (long_or_not c k.at u)
        where
          own : IsListed n q c window row
          own = All-contains (IsListed n q c window) pairs row are.listed held

          none : u < row.arrive → (IsAsLong c k.at u → ⊥) → (o : Pair) → IsUndominated n q o → k.at ≤ o.depart → o.arrive ≤ u → ⊥
          none less not_long o best as_late soon = on_order (le_or_above row.depart o.depart)
            where
              earlier : o.depart < row.depart → Contains pairs o ⊎ IsAsLong c k.at u → ⊥
              earlier before (inl listed) = let at = first o listed as_late in absurd (omega arith)
              earlier before (inr long) = not_long long

              on_order : (row.depart ≤ o.depart) ⊎ (o.depart < row.depart) → ⊥
              on_order (inl after) =
                  let same = ap (λ (p : Pair). p.arrive) (own.undominated.alone o best.pair after (omega arith)) in absurd (omega arith)
              on_order (inr before) = earlier before (listed_or_long o best as_late soon (let within = own.within in omega arith))

          on_cases : (row.arrive ≤ u) ⊎ (u < row.arrive) → IsAsLong c k.at u ⊎ (IsAsLong c k.at u → ⊥) → (row.arrive ≤ u) ⊎ IsAsLong c k.at u
          on_cases (inl soon) long = inl soon
          on_cases (inr less) (inl long) = inr long
          on_cases (inr less) (inr not_long) = inr (has_long (none less not_long))
      no_earlier None first = λ before_others. on_cases before_others (long_or_not c k.at u)
        where
          none : IsBeforeOthers n q window u → (IsAsLong c k.at u → ⊥) → (o : Pair) → IsUndominated n q o → k.at ≤ o.depart → o.arrive ≤ u → ⊥
          none before_others not_long o best as_late soon = on_order (le_or_above (q.depart + window) o.depart)
            where
              within : Contains pairs o ⊎ IsAsLong c k.at u → ⊥
              within (inl listed) = first o listed as_late
              within (inr long) = not_long long

              on_order : (q.depart + window ≤ o.depart) ⊎ (o.depart < q.depart + window) → ⊥
              on_order (inl after) = let later = before_others o best.pair after in absurd (omega arith)
              on_order (inr before) = within (listed_or_long o best as_late soon before)

          on_cases : IsBeforeOthers n q window u → IsAsLong c k.at u ⊎ (IsAsLong c k.at u → ⊥) → IsAsLong c k.at u
          on_cases before_others (inl long) = long
          on_cases before_others (inr not_long) = has_long (none before_others not_long)

pub departures_miss_nothing : DeparturesMissNothing
departures_miss_nothing n rules q c window pairs without are k u answers =
    no_earlier n rules.network q c window pairs without are k u answers (first_from k.at pairs) (is_first k.at pairs are.rising)
