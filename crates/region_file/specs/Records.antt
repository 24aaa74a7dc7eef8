-- How a region in bytes is read: its head, and the records that it counts, one behind the other.
use Rattle.std.specs.Prelude.{ℕ, zero, suc, ◌+◌, ◌-◌, ◌==◌, List, [], ◌∷◌, length, map, Option, Some, None, Result, Ok, Err, if◌then◌else◌}
use Rattle.file_records.specs.{one, with_first, ◌>>=◌}
use Rattle.plan_base.specs.{Place}
use Rattle.service_days.specs.DaysMeaning.{DaysMeaning}
use Rattle.timetable_arcs.specs.{TripLists}
use Rattle.mode_network.specs.{Node, Stop, NetworkLists.NetworkLists}
use Rattle.region_file.specs.{Fronts.arc_front, Fronts.call_front, Fronts.head_front, Fronts.road_front, Fronts.stop_front, Fronts.switch_front, Fronts.trip_front, declared.counts.Counts.Counts}
pub use Rattle.region_file.specs.{declared.fault.RegionFault.RegionFault, declared.fault.RegionFault.TheVariants.BadHead, declared.fault.RegionFault.TheVariants.BadRecord, declared.fault.RegionFault.TheVariants.Trailing}

-- so many records
unfoldable pub many : {X : Type 0} → (List ℕ → Result (X × List ℕ) ℕ) → ℕ → List ℕ → Result (List X × List ℕ) ℕ
many read zero bytes = Ok ([], bytes)
many read (suc n) bytes = do
  first ← read bytes
  with_first first.0 (many read n first.1)

-- a trip, and as many calls as its record counts
unfoldable pub trip_read : List ℕ → Result (TripLists × List ℕ) ℕ
trip_read bytes = do
  trip ← one trip_front bytes
  calls ← many (one call_front) trip.0.1 trip.1
  Ok (record trip.0.0 { calls = calls.0 }, calls.1)

-- the nodes of stops, which are numbered in their order
abbrev pub stop_nodes : ℕ → List (List ℕ × Place) → List Node
stop_nodes number [] = []
stop_nodes number (stop ∷ stops) = record { key = Stop number; place = stop.1 } ∷ stop_nodes (number + 1) stops

-- so many stops: their names, and their nodes
unfoldable pub stops_read : ℕ → List ℕ → Result ((List (List ℕ) × List Node) × List ℕ) ℕ
stops_read count bytes = do
  stops ← many (one stop_front) count bytes
  Ok ((map (λ stop. stop.0) stops.0, stop_nodes 0 stops.0), stops.1)

-- the lists of a network, and the bytes behind its records
unfoldable pub network_records : DaysMeaning → Counts → List ℕ → Result (NetworkLists × List ℕ) ℕ
network_records days counts bytes = do
  roads ← many (one road_front) counts.roads bytes
  stops ← stops_read counts.stops roads.1
  switches ← many (one switch_front) counts.switches stops.1
  arcs ← many (one arc_front) counts.arcs switches.1
  links ← many (one arc_front) counts.links arcs.1
  trips ← many trip_read counts.trips links.1
  Ok (
    record {
      days = days;
      roads = roads.0;
      stop_names = stops.0.0;
      stops = stops.0.1;
      switches = switches.0;
      arcs = arcs.0;
      links = links.0;
      trips = trips.0;
    },
    trips.1,
  )

-- In so many bytes: the lists, where nothing follows them. A record, or what follows the last one, is named by its place.
abbrev pub whole_network : ℕ → Result (NetworkLists × List ℕ) ℕ → Result NetworkLists RegionFault
whole_network len (Ok x) = if length x.1 == 0 then Ok x.0 else Err (Trailing (len - length x.1))
whole_network len (Err left) = Err (BadRecord (len - left))

abbrev pub network_behind : ℕ → Option ((DaysMeaning × Counts) × List ℕ) → Result NetworkLists RegionFault
network_behind len None = Err BadHead
network_behind len (Some head) = whole_network len (network_records head.0.0 head.0.1 head.1)

-- the lists that bytes spell, or what is wrong with them
unfoldable pub lists_in : List ℕ → Result NetworkLists RegionFault
lists_in bytes = network_behind (length bytes) (head_front bytes)
