-- What a feed that was read keeps.
use Rattle.std.specs.Prelude.{◌≡◌, ◌<◌, ◌≤◌, ℕ, List, length, map, Bool, true, bytes_eq, nat_eq, ◌&&◌}
use Rattle.std.specs.List.{AllByRecursion, IsDistinct}
use Rattle.gtfs_tables.specs.{declared.routes.RouteRow.RouteRow, declared.trips.TripRow.TripRow, declared.frequencies.FrequencyRow.FrequencyRow, declared.calls.CallRow.CallRow, FeedLists.FeedLists, Forms.is_id}

-- an id: 1 to fewer than 2 ^ 30 bytes of UTF-8
abbrev pub IsFeedId : List ℕ → Type 0
IsFeedId id = is_id id ≡ true

-- a letter of transit
pub record IsRoute (route : RouteRow) : Type 0 where
  pub id : IsFeedId route.id
  pub above_road : 3 ≤ route.letter
  pub letter : route.letter ≤ 13

-- a trip over one of so many routes
pub record IsTrip (routes : ℕ) (trip : TripRow) : Type 0 where
  pub id : IsFeedId trip.id
  pub service : IsFeedId trip.service
  pub route : trip.route < routes

-- a headway of one of so many trips
pub record IsFrequency (trips : ℕ) (frequency : FrequencyRow) : Type 0 where
  pub trip : frequency.trip < trips
  pub start : frequency.start ≤ 604799
  pub end : frequency.end ≤ 604799
  pub headway : 1 ≤ frequency.headway

-- a call of one of so many trips at one of so many stops
pub record IsCall (trips stops : ℕ) (call : CallRow) : Type 0 where
  pub trip : call.trip < trips
  pub stop : call.stop < stops
  pub arr : call.arr ≤ 604799
  pub dep : call.dep ≤ 604799

-- two calls are of one trip and have one sequence number
abbrev pub is_same_call : CallRow → CallRow → Bool
is_same_call call other = nat_eq call.trip other.trip && nat_eq call.sequence other.sequence

-- Ids are ids, and no two stops, routes, services or trips have one. Letters are those of transit, times are
-- within a week, and headways take some time. Numbers of routes, trips and stops are places in their lists. No two calls of one trip have one
-- sequence number.
pub record IsFeed (feed : FeedLists) : Type 0 where
  pub stops : AllByRecursion (λ stop. IsFeedId stop.id) feed.stops
  pub stop_ids : IsDistinct bytes_eq (map (λ stop. stop.id) feed.stops)
  pub routes : AllByRecursion IsRoute feed.routes
  pub route_ids : IsDistinct bytes_eq (map (λ route. route.id) feed.routes)
  pub services : AllByRecursion (λ service. IsFeedId service.id) feed.services
  pub service_ids : IsDistinct bytes_eq (map (λ service. service.id) feed.services)
  pub dates : AllByRecursion (λ date. IsFeedId date.id) feed.dates
  pub trips : AllByRecursion (IsTrip (length feed.routes)) feed.trips
  pub trip_ids : IsDistinct bytes_eq (map (λ trip. trip.id) feed.trips)
  pub frequencies : AllByRecursion (IsFrequency (length feed.trips)) feed.frequencies
  pub calls : AllByRecursion (IsCall (length feed.trips) (length feed.stops)) feed.calls
  pub sequences : IsDistinct is_same_call feed.calls
