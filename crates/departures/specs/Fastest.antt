-- How long rides take at least.
use Rattle.std.specs.Prelude.{ℕ, ◌+◌, ◌-◌, ◌*◌, ◌<◌, ◌≤◌, List, [], length, slice_index_or}
use Rattle.timetable_arcs.specs.{Instance, Ride, TableLists, IsIn, trip_at, arrives, departs}
pub use Rattle.departures.specs.declared.fastest.FastestCall.{FastestCall}

abbrev pub no_time : FastestCall
no_time = record { arrive = 0; depart = 0 }

abbrev pub fastest_call : List FastestCall → ℕ → FastestCall
fastest_call calls k = slice_index_or calls k no_time

-- how many milliseconds a run with these calls rides from one of them to another
abbrev pub ride_ms : List FastestCall → ℕ → ℕ → ℕ
ride_ms calls board alight = 1000 * ((fastest_call calls alight).arrive - (fastest_call calls board).depart)

-- how many a ride takes at least, by a fastest run of each pattern
abbrev pub least_ms : List (List FastestCall) → Ride → ℕ
least_ms runs ride = ride_ms (slice_index_or runs ride.pattern []) ride.board ride.alight

-- the run does not make the ride faster, if the ride is one along its pattern
abbrev pub IsNoFaster : TableLists → List (List FastestCall) → Instance → Ride → Type 0
IsNoFaster t runs run ride = IsIn t ride.pattern run → ride.board < ride.alight → ride.alight < length (trip_at t run.trip).calls
    → departs t run ride.board + least_ms runs ride ≤ arrives t run ride.alight

-- no run makes a ride along its pattern faster
abbrev pub NoneIsFaster : TableLists → List (List FastestCall) → Type 0
NoneIsFaster t runs = (run : Instance) (ride : Ride) → IsNoFaster t runs run ride
