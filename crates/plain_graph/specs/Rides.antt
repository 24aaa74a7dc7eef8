-- What is true of the ride that an arc stands for.
use Rattle.std.specs.Prelude.{◌≡◌, ℕ, ◌<◌, ◌≤◌, length, Some, slice_index_or}
use Rattle.std.proofs.Common.{arith}
use Rattle.timetable_arcs.specs.{Instance, Ride, TableLists, IsIn, trip_at, pattern_trip, departs, arrives, rides_at, IsRideAt, IsTable}
use Rattle.timetable_arcs.proofs.TableLemmas.{never_back, next_is}
use Rattle.plain_graph.specs.{declared.plain.PlainArc.PlainArc, declared.plain.PlainArc.TheVariants.Road as RoadArc, declared.plain.PlainArc.TheVariants.Link as LinkArc, declared.plain.PlainArc.TheVariants.Stand as StandArc, declared.plain.PlainArc.TheVariants.Ride as RideArc, PlainArcs.run_at, PlainArcs.no_ride}

-- a ride along a pattern, from some stop
pub record IsRideOf (t : TableLists) (ride : Ride) : Type 0 where
  pub pattern : ride.pattern < length t.patterns
  pub later : ride.board < ride.alight
  pub within : ride.alight < length (pattern_trip t ride.pattern).calls

-- an arc that is a ride is one along a pattern
abbrev pub IsKnownRide : TableLists → PlainArc → Type 0
IsKnownRide t (RoadArc arc) = Unit {0}
IsKnownRide t (LinkArc link) = Unit {0}
IsKnownRide t StandArc = Unit {0}
IsKnownRide t (RideArc ride) = IsRideOf t ride

module _ (t : TableLists) (table : IsTable t) (stop : ℕ) (ride : Ride) (is : IsRideAt t stop ride) where
  -- a run of the pattern has as many calls as the pattern
  pub alights_within : (run : Instance) → IsIn t ride.pattern run → ride.alight < length (trip_at t run.trip).calls
  alights_within run is_in = let same = (table.patterns.alike ride.pattern run is_in).calls in omega (arith, same, is.within)

  -- it arrives no earlier than it departs
  pub rides_on : (run : Instance) → IsIn t ride.pattern run → departs t run ride.board ≤ arrives t run ride.alight
  rides_on run is_in = never_back t table ride.pattern run is_in ride.board ride.alight is.later (alights_within run is_in)

  -- the run that it takes is one of its pattern, and departs at the time or later
  pub takes : (time : ℕ) (run : Instance) → run_at t time ride ≡ Some run → IsIn t ride.pattern run × (time ≤ departs t run ride.board)
  takes time run e = next_is t table ride.pattern ride.board time run e

-- the place is behind the one of the ride i from a stop, and all rides up to it are along the same pattern
pub record IsPastBoard (t : TableLists) (stop i past : ℕ) : Type 0 where
  pub later : i < past
  pub within : past ≤ length (rides_at t stop)
  pub same : (k : ℕ) → i ≤ k → k < past → (slice_index_or (rides_at t stop) k no_ride).pattern ≡ (slice_index_or (rides_at t stop) i no_ride).pattern
