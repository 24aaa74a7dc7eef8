-- The arcs out of a node in mirrored time that can be taken, source by source.
use Rattle.std.specs.Prelude.{ℕ, ◌+◌, ◌-◌, List, [], ◌∷◌, Option, Some, None, nat_le, ◌&&◌, if◌then◌else◌, flat_map}
use Rattle.std.specs.List.{range_with_len}
use Rattle.search_laws.specs.{is_open, open_way, Way}
use Rattle.timetable_arcs.specs.{Instance, Ride as RideCalls, TableLists, pattern_trip, last_run, departs}
use Rattle.mode_network.specs.{NetworkLists.NetworkLists, letter_at, stop_node}
use Rattle.plain_graph.specs.{pattern_call}
use Rattle.latest_departure.specs.declared.source.Source.{Source}
use Rattle.latest_departure.specs.declared.source.Source.TheVariants as source

abbrev pub ride_calls : ℕ → ℕ → ℕ → RideCalls
ride_calls pattern call board = record { pattern = pattern; board = board; alight = call }

-- a ride of a run, as the arc at a place, if one may board
abbrev pub mirror_ride_ways : NetworkLists → TableLists → ℕ → Instance → ℕ → RideCalls → List Way
mirror_ride_ways n t deadline run place ride =
    if (pattern_call t ride.pattern ride.board).board then record {
      place = place;
      arc = record { to = stop_node n (pattern_call t ride.pattern ride.board).stop; letter = Some (pattern_trip t ride.pattern).letter };
      at = deadline - departs t run ride.board;
    } ∷ [] else []

-- its rides to a call from each earlier one, as the arcs from this place on
abbrev pub mirror_run_ways : NetworkLists → TableLists → ℕ → ℕ → ℕ → ℕ → Option Instance → List Way
mirror_run_ways n t deadline place pattern call None = []
mirror_run_ways n t deadline place pattern call (Some run) = flat_map (λ board. mirror_ride_ways n t deadline run (place + board) (ride_calls pattern call board)) (range_with_len 0 call)

-- What a source of v stands for, as the arcs from this place on. One run makes all rides to a call: of those that are over by the deadline less s, the one
-- that departs last.
abbrev pub source_ways : NetworkLists → TableLists → ℕ → ℕ → ℕ → ℕ → ℕ → Source → List Way
source_ways n t deadline v s letters place (source.Road arc) = open_way letters place (record { to = arc.from; letter = letter_at n.roads v }) (Some (s + arc.ms))
source_ways n t deadline v s letters place (source.Link link) = open_way letters place (record { to = link.from; letter = None }) (Some (s + link.ms))
source_ways n t deadline v s letters place source.Stand = open_way letters place (record { to = v; letter = letter_at n.roads v }) (Some s)
source_ways n t deadline v s letters place (source.Alight pattern call) =
    if nat_le s deadline && is_open letters (Some (pattern_trip t pattern).letter) then mirror_run_ways n t deadline place pattern call (last_run t pattern call (deadline - s)) else []
