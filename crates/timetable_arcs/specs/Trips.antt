-- Trips, their runs, and when a run is where.
use Rattle.std.specs.Prelude.{◌≡◌, ℕ, ◌+◌, ◌*◌, ◌<◌, true, List, Some, slice_get, slice_index}
use Rattle.plan_base.specs.{DaySet, contains_day}
pub use Rattle.timetable_arcs.specs.declared.trips.Call.{Call}

-- a trip: its letter, its days, its name and its calls in order
pub record TripLists : Type 0 where
  pub letter : ℕ
  pub days : DaySet
  pub name : List ℕ
  pub calls : List Call

-- the trip at this place runs on this day
pub record IsRunOf (trips : List TripLists) (place day : ℕ) (trip : TripLists) : Type 0 where
  pub is : slice_get trips place ≡ Some trip
  pub runs : contains_day trip.days day ≡ true

-- when a run of this day arrives at a call, and when it departs, in milliseconds of the region clock
abbrev pub arrival_of : List ℕ → ℕ → Call → ℕ
arrival_of bases day call = slice_index bases day + 1000 * call.arr

abbrev pub departure_of : List ℕ → ℕ → Call → ℕ
departure_of bases day call = slice_index bases day + 1000 * call.dep

-- on this run one may ride from the call at `board`, which is `on`, to the later call at `alight`, which is `off`
pub record IsRide (trips : List TripLists) (place day board alight : ℕ) (trip : TripLists) (on off : Call) : Type 0 where
  pub run : IsRunOf trips place day trip
  pub on_is : slice_get trip.calls board ≡ Some on
  pub off_is : slice_get trip.calls alight ≡ Some off
  pub later : board < alight
  pub boards : on.board ≡ true
  pub alights : off.alight ≡ true
