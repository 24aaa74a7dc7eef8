-- The arcs of a network as a graph: out of each node its road arcs, its links, at a road node one that stands, and at a stop
-- the rides that begin there.
use Rattle.std.specs.Prelude.{ℕ, ◌+◌, ◌-◌, List, [], length, nat_lt, is_some, Option, Some, None, option_map, if◌then◌else◌, slice_index_or}
use Rattle.search_laws.specs.{GraphMeaning, GraphArc}
use Rattle.timetable_arcs.specs.{Call, Instance, Ride as RideCalls, TableLists, pattern_trip, next_run, arrives, no_call, rides_at}
use Rattle.mode_network.specs.{Arc, nodes_of, letter_at, stop_at, stop_node, range_from, NetworkLists.NetworkLists}
pub use Rattle.plain_graph.specs.{declared.plain.PlainArc.PlainArc, declared.plain.PlainArc.TheVariants.Road, declared.plain.PlainArc.TheVariants.Link, declared.plain.PlainArc.TheVariants.Stand, declared.plain.PlainArc.TheVariants.Ride}

-- how many arcs of a list begin at a node
abbrev pub count_from : List Arc → ℕ → ℕ
count_from arcs v = (range_from arcs v).1 - (range_from arcs v).0

-- one arc stands at a road node, and none elsewhere
abbrev pub stands_at : NetworkLists → ℕ → ℕ
stands_at n v = if is_some (letter_at n.roads v) then 1 else 0

-- the rides that begin at a stop, and none elsewhere
abbrev pub rides_from_stop : TableLists → Option ℕ → List RideCalls
rides_from_stop t (Some stop) = rides_at t stop
rides_from_stop t None = []

abbrev pub rides_of : NetworkLists → TableLists → ℕ → List RideCalls
rides_of n t v = rides_from_stop t (stop_at n v)

-- how many arcs are neither road arcs nor links, and how many there are
abbrev pub inner_arcs_at : NetworkLists → TableLists → ℕ → ℕ
inner_arcs_at n t v = stands_at n v + length (rides_of n t v)

abbrev pub arcs_at : NetworkLists → TableLists → ℕ → ℕ
arcs_at n t v = count_from n.arcs v + count_from n.links v + inner_arcs_at n t v

abbrev pub no_arc : Arc
no_arc = record { from = 0; to = 0; ms = 0 }

abbrev pub no_ride : RideCalls
no_ride = record { pattern = 0; board = 0; alight = 0 }

-- the one that stands, or the ride at a place of those out of a node
abbrev pub inner_arc : NetworkLists → TableLists → ℕ → ℕ → PlainArc
inner_arc n t v k = if is_some (letter_at n.roads v) then Stand else Ride (slice_index_or (rides_of n t v) k no_ride)

-- the arc at a place of those out of a node: first come the road arcs and then the links, in the network's order, and then the one that
-- stands, or the rides, in the timetable's order
abbrev pub plain_arc : NetworkLists → TableLists → ℕ → ℕ → PlainArc
plain_arc n t v i =
    if nat_lt i (count_from n.arcs v) then Road (slice_index_or n.arcs ((range_from n.arcs v).0 + i) no_arc)
    else (if nat_lt (i - count_from n.arcs v) (count_from n.links v)
    then Link (slice_index_or n.links ((range_from n.links v).0 + (i - count_from n.arcs v)) no_arc)
    else inner_arc n t v (i - count_from n.arcs v - count_from n.links v))

-- the pattern and the calls of a ride; another arc has none
abbrev pub ride_of : PlainArc → Option (ℕ × ℕ × ℕ)
ride_of (Road arc) = None
ride_of (Link link) = None
ride_of Stand = None
ride_of (Ride ride) = Some (ride.pattern, ride.board, ride.alight)

-- the call of a pattern at a place
abbrev pub pattern_call : TableLists → ℕ → ℕ → Call
pattern_call t p call = slice_index_or (pattern_trip t p).calls call no_call

-- where it leads, and its letter
abbrev pub graph_arc : NetworkLists → TableLists → ℕ → PlainArc → GraphArc
graph_arc n t v (Road arc) = record { to = arc.to; letter = letter_at n.roads v }
graph_arc n t v (Link link) = record { to = link.to; letter = None }
graph_arc n t v Stand = record { to = v; letter = letter_at n.roads v }
graph_arc n t v (Ride ride) = record { to = stop_node n (pattern_call t ride.pattern ride.alight).stop; letter = Some (pattern_trip t ride.pattern).letter }

-- the run that a ride takes at a time: the next one that departs where it begins
abbrev pub run_at : TableLists → ℕ → RideCalls → Option Instance
run_at t time ride = next_run t ride.pattern ride.board time

-- when it arrives, taken at a time; a ride that no run makes any more never does
abbrev pub arrival : TableLists → ℕ → PlainArc → Option ℕ
arrival t time (Road arc) = Some (time + arc.ms)
arrival t time (Link link) = Some (time + link.ms)
arrival t time Stand = Some time
arrival t time (Ride ride) = option_map (λ run. arrives t run ride.alight) (run_at t time ride)

-- the network, with its timetable, as a graph
abbrev pub plain_meaning : NetworkLists → TableLists → GraphMeaning
plain_meaning n t = record {
  nodes = length (nodes_of n);
  arcs = arcs_at n t;
  arc_at = λ v i. graph_arc n t v (plain_arc n t v i);
  arrive = λ v i time. arrival t time (plain_arc n t v i);
}
