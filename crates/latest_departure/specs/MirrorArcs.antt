-- A network in mirrored time, where the moment s stands for a deadline less s: out of each node what leads to it.
use Rattle.std.specs.Prelude.{◌≡◌, ℕ, ◌+◌, ◌-◌, ◌<◌, true, nat_le, ◌&&◌, List, [], ◌∷◌, length, map, slice_index_or, All, Contains, Option, Some, None, option_map, if◌then◌else◌, flat_map}
use Rattle.std.specs.List.{range_with_len}
use Rattle.search_laws.specs.{GraphMeaning, GraphArc}
use Rattle.timetable_arcs.specs.{Instance, Ride as RideCalls, TableLists, pattern_trip, last_run, departs}
use Rattle.mode_network.specs.{NetworkLists.NetworkLists, nodes_of, letter_at, stop_node}
use Rattle.plain_graph.specs.{pattern_call, PlainArc, Road, Link, Stand, Ride}
use Rattle.latest_departure.specs.declared.source.Source.{Source}
use Rattle.latest_departure.specs.declared.source.Source.TheVariants as source

-- the arcs that a source stands for: the call of a pattern at which one may alight stands for the rides from each earlier call
abbrev pub plain_arcs_of : Source → List PlainArc
plain_arcs_of (source.Road arc) = Road arc ∷ []
plain_arcs_of (source.Link link) = Link link ∷ []
plain_arcs_of source.Stand = Stand ∷ []
plain_arcs_of (source.Alight pattern call) = map (λ board. Ride (record { pattern = pattern; board = board; alight = call })) (range_with_len 0 call)

-- how many these are, and the one at a place
abbrev pub count_of : Source → ℕ
count_of (source.Road arc) = 1
count_of (source.Link link) = 1
count_of source.Stand = 1
count_of (source.Alight pattern call) = call

abbrev pub plain_arc_of : Source → ℕ → PlainArc
plain_arc_of (source.Road arc) i = Road arc
plain_arc_of (source.Link link) i = Link link
plain_arc_of source.Stand i = Stand
plain_arc_of (source.Alight pattern call) i = Ride (record { pattern = pattern; board = i; alight = call })

-- what leads to a node, of the rows that list it
abbrev pub arcs_into : (ℕ → List Source) → ℕ → List PlainArc
arcs_into rows v = flat_map plain_arcs_of (rows v)

-- where an arc comes from, and its letter
abbrev pub mirror_arc : NetworkLists → TableLists → ℕ → PlainArc → GraphArc
mirror_arc n t v (Road arc) = record { to = arc.from; letter = letter_at n.roads v }
mirror_arc n t v (Link link) = record { to = link.from; letter = None }
mirror_arc n t v Stand = record { to = v; letter = letter_at n.roads v }
mirror_arc n t v (Ride ride) = record { to = stop_node n (pattern_call t ride.pattern ride.board).stop; letter = Some (pattern_trip t ride.pattern).letter }

-- the run that a ride takes which is to be over by the deadline less s: of those that are, the one that departs last. None is where one may not
-- board, or s is above the deadline.
abbrev pub run_by : TableLists → ℕ → ℕ → RideCalls → Option Instance
run_by t deadline s ride =
    if nat_le s deadline && (pattern_call t ride.pattern ride.board).board then last_run t ride.pattern ride.alight (deadline - s) else None

-- the mirrored moment at which it begins
abbrev pub begins : TableLists → ℕ → ℕ → PlainArc → Option ℕ
begins t deadline s (Road arc) = Some (s + arc.ms)
begins t deadline s (Link link) = Some (s + link.ms)
begins t deadline s Stand = Some s
begins t deadline s (Ride ride) = option_map (λ run. deadline - departs t run ride.board) (run_by t deadline s ride)

-- the arc at a place of those into a node
abbrev pub arc_into : (ℕ → List Source) → ℕ → ℕ → PlainArc
arc_into rows v i = slice_index_or (arcs_into rows v) i Stand

-- the network in mirrored time, as a graph
abbrev pub mirror_meaning : NetworkLists → TableLists → (ℕ → List Source) → ℕ → GraphMeaning
mirror_meaning n t rows deadline = record {
  nodes = length (nodes_of n);
  arcs = λ v. length (arcs_into rows v);
  arc_at = λ v i. mirror_arc n t v (arc_into rows v i);
  arrive = λ v i s. begins t deadline s (arc_into rows v i);
}

-- ---- what the rows are

-- the call of a pattern at which one may alight is at the stop that v is
pub record AlightsAt (n : NetworkLists) (t : TableLists) (v pattern call : ℕ) : Type 0 where
  pub is_pattern : pattern < length t.patterns
  pub within : call < length (pattern_trip t pattern).calls
  pub alights : (pattern_call t pattern call).alight ≡ true
  pub at : v ≡ stop_node n (pattern_call t pattern call).stop

-- the source leads to v
abbrev pub LeadsInto : NetworkLists → TableLists → ℕ → Source → Type 0
LeadsInto n t v (source.Road arc) = Contains n.arcs arc × (arc.to ≡ v)
LeadsInto n t v (source.Link link) = Contains n.links link × (link.to ≡ v)
LeadsInto n t v source.Stand = (mode : ℕ) × (letter_at n.roads v ≡ Some mode)
LeadsInto n t v (source.Alight pattern call) = AlightsAt n t v pattern call

-- the row of each node lists exactly what leads to it
pub record AreSources (n : NetworkLists) (t : TableLists) (rows : ℕ → List Source) : Type 0 where
  pub fit : (v : ℕ) → v < length (nodes_of n) → All (LeadsInto n t v) (rows v)
  pub whole : (v : ℕ) (s : Source) → v < length (nodes_of n) → LeadsInto n t v s → Contains (rows v) s
