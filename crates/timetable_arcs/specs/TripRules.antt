-- The rules that the trips of a timetable keep.
use Rattle.std.specs.Prelude.{◌≡◌, ℕ, ◌+◌, ◌^◌, ◌≤◌, ◌&&◌, nat_lt, nat_le, Bool, true, not, List, [], ◌∷◌, length, sum_by, Option, Some, None, if◌then◌else◌, position}
use Rattle.std.specs.List.{list_all}
use Rattle.plan_base.specs.{Caps, Trips, Calls}
use Rattle.timetable_arcs.specs.{declared.trips.Call.Call, Trips.TripLists}
pub use Rattle.timetable_arcs.specs.{declared.faults.TableFault.TableFault, declared.faults.TableFault.TheVariants.TimeGoesBack, declared.faults.TableFault.TheVariants.UnknownStop, declared.faults.TableFault.TheVariants.BadTrip, declared.faults.TableFault.TheVariants.TooMany, declared.faults.TableFault.TheVariants.OutOfMemory}

-- less than 168 hours after the base of the day
abbrev pub is_early : Call → Bool
is_early call = nat_le call.arr 604799 && nat_le call.dep 604799

-- a transit letter, two calls or more, some day and none outside the numbers of days (day k is bit k), and times below 168 hours
abbrev pub is_trip : ℕ → TripLists → Bool
is_trip days trip =
    (nat_le 3 trip.letter && nat_le trip.letter 13) && nat_le 2 (length trip.calls)
    && (nat_lt 0 trip.days.0 && nat_lt trip.days.0 (2 ^ days)) && list_all is_early trip.calls

-- each call arrives at `t` or later and not before the one before it departs, and departs no earlier than it arrives
abbrev pub goes_on : ℕ → List Call → Bool
goes_on t [] = true
goes_on t (call ∷ calls) = nat_le t call.arr && nat_le call.arr call.dep && goes_on call.dep calls

-- the first call that is at none of so many stops
abbrev pub unknown_stop : ℕ → TripLists → Option ℕ
unknown_stop stops trip = position (λ (call : Call). not (nat_lt call.stop stops)) trip.calls

-- the first rule that the trip at the place k breaks
abbrev pub later_fault : ℕ → TripLists → Option ℕ → Option TableFault
later_fault k trip (Some call) = Some (UnknownStop k call)
later_fault k trip None = if goes_on 0 trip.calls then None else Some (TimeGoesBack k)

abbrev pub trip_fault : ℕ → ℕ → ℕ → TripLists → Option TableFault
trip_fault days stops k trip = if is_trip days trip then later_fault k trip (unknown_stop stops trip) else Some (BadTrip k)

-- the first fault that is there
abbrev pub or_later : Option TableFault → Option TableFault → Option TableFault
or_later (Some fault) later = Some fault
or_later None later = later

-- the first fault of the trips in turn; their places are counted from k
abbrev pub trips_fault : ℕ → ℕ → ℕ → List TripLists → Option TableFault
trips_fault days stops k [] = None
trips_fault days stops k (trip ∷ trips) = or_later (trip_fault days stops k trip) (trips_fault days stops (k + 1) trips)

-- how many calls all trips have together
abbrev pub calls_of : List TripLists → ℕ
calls_of trips = sum_by (λ (trip : TripLists). length trip.calls) trips

-- the first rule that trips break, over so many days and stops
abbrev pub table_fault : Caps → ℕ → ℕ → List TripLists → Option TableFault
table_fault caps days stops trips =
    if nat_lt caps.trips (length trips) then Some (TooMany Trips)
    else (if nat_lt caps.calls (calls_of trips) then Some (TooMany Calls)
    else trips_fault days stops 0 trips)

-- a refusal has its cause in the trips; want of memory has none
abbrev pub IsFaultOf : Caps → ℕ → ℕ → List TripLists → TableFault → Type 0
IsFaultOf caps days stops trips OutOfMemory = Unit {0}
IsFaultOf caps days stops trips (TimeGoesBack trip) = table_fault caps days stops trips ≡ Some (TimeGoesBack trip)
IsFaultOf caps days stops trips (UnknownStop trip call) = table_fault caps days stops trips ≡ Some (UnknownStop trip call)
IsFaultOf caps days stops trips (BadTrip trip) = table_fault caps days stops trips ≡ Some (BadTrip trip)
IsFaultOf caps days stops trips (TooMany kind) = table_fault caps days stops trips ≡ Some (TooMany kind)

-- trips that break no rule, within the full limits
pub record AreTrips (days stops : ℕ) (trips : List TripLists) : Type 0 where
  pub few : length trips ≤ 2 ^ 20
  pub few_calls : calls_of trips ≤ 2 ^ 25
  pub faultless : trips_fault days stops 0 trips ≡ None
