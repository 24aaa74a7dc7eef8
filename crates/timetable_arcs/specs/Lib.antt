pub mod Trips
pub mod TripRules
pub mod Patterns
pub mod Rides
pub mod RideTables
pub mod Table
pub mod Runs
pub mod inside
pub use Trips.{Call, TripLists, IsRunOf, arrival_of, departure_of, IsRide}
pub use TripRules.{TableFault, TimeGoesBack, UnknownStop, BadTrip, TooMany, OutOfMemory, is_early, is_trip, goes_on, unknown_stop, later_fault, trip_fault, or_later, trips_fault, calls_of, table_fault, AreTrips}
pub use Patterns.{Instance, TableLists, plain_table, no_trip, no_call, no_run, trip_at, call_of, arrives, departs, runs_of, pattern_trip, next_run, last_arrived, last_run, IsAlike, AreAlike, IsBehind, IsIn, ArePatterns}
pub use Rides.{Board, Ride, alights, IsRideAt, rides_along, rides_from, rides_at, boards_along, boards_from, boards_at}
pub use RideTables.{BoardLists, nothing_held, held_at, sorted_table, with_call, AddsBoards, AreBoards, AreAlightPlaces, end_at, rides_end}
pub use Table.{AreBases, IsTable}
pub use Runs.{IsFirstFrom, IsNextRun, IsLastBy, IsLastRun}
