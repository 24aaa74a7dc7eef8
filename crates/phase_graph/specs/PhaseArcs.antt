-- The arcs of the phase graph: out of each node, before the descent, its entries up and along the core; then all its entries, of which
-- those arrive that lead down from a node with a mark to another; and then the arcs of the network that are no road arcs, of which in the descent
-- there is one that stands at most.
use Rattle.std.specs.Prelude.{◌≡◌, ℕ, ◌+◌, ◌-◌, ◌*◌, ◌/◌, ◌%◌, ◌^◌, ◌==◌, ◌<◌, ◌≤◌, nat_lt, Bool, true, false, List, [], length, map, Option, Some, None, if◌then◌else◌, slice_index_or}
use Rattle.search_laws.specs.{RunRides, GraphMeaning, GraphArc, Leg, Way}
use Rattle.timetable_arcs.specs.{TableLists}
use Rattle.mode_network.specs.{NetworkLists.NetworkLists, nodes_of, letter_at, range_of}
use Rattle.hierarchy.specs.{HierarchyLists, entry_at, from_of, legs_from, rise_places_from}
use Rattle.plain_graph.specs.{plain_rides, plain_meaning, count_from, stands_at, inner_arcs_at, arcs_at}
pub use Rattle.phase_graph.specs.{declared.phases.PhaseArc.PhaseArc, declared.phases.PhaseArc.TheVariants.Up, declared.phases.PhaseArc.TheVariants.Down, declared.phases.PhaseArc.TheVariants.Other}
use Rattle.phase_graph.specs.{Arcs.phase_node, Marks.is_fall}

-- the places of the entries that lead up or along the core; in the descent nothing leads up
abbrev pub rises_at : HierarchyLists → ℕ → Bool → List ℕ
rises_at h v down = if down then [] else rise_places_from h v

-- they are steady, if the hierarchy has legs
abbrev pub legs_at : HierarchyLists → ℕ → Bool → List Leg
legs_at h v down = if down then [] else legs_from h v

-- the entries out of a node stand side by side: where they begin, and how many they are
abbrev pub first_entry : HierarchyLists → ℕ → ℕ
first_entry h v = (range_of from_of h.entries v).0

abbrev pub entries_at : HierarchyLists → ℕ → ℕ
entries_at h v = (range_of from_of h.entries v).1 - (range_of from_of h.entries v).0

-- the first arc of the plain graph that counts, and how many do: all but the road arcs, or in the descent the one that stands
abbrev pub first_other : NetworkLists → ℕ → Bool → ℕ
first_other n v down = count_from n.arcs v + (if down then count_from n.links v else 0)

abbrev pub others_at : NetworkLists → TableLists → ℕ → Bool → ℕ
others_at n t v down = if down then stands_at n v else count_from n.links v + inner_arcs_at n t v

abbrev pub phase_arc : NetworkLists → HierarchyLists → ℕ → Bool → ℕ → PhaseArc
phase_arc n h v down i =
    if nat_lt i (length (rises_at h v down)) then Up (slice_index_or (rises_at h v down) i 0)
    else (if nat_lt (i - length (rises_at h v down)) (entries_at h v)
    then Down (first_entry h v + (i - length (rises_at h v down)))
    else Other (first_other n v down + (i - length (rises_at h v down) - entries_at h v)))

abbrev pub phase_arcs_at : NetworkLists → TableLists → HierarchyLists → ℕ → Bool → ℕ
phase_arcs_at n t h v down = length (rises_at h v down) + entries_at h v + others_at n t v down

-- the entry at this place leaves v
abbrev pub BeginsAt : HierarchyLists → ℕ → ℕ → Type 0
BeginsAt h v place = (place < length h.entries) × ((entry_at h.entries place).from ≡ v)

-- an arc out of v whose place is one
abbrev pub IsArcOutOf : NetworkLists → TableLists → HierarchyLists → ℕ → PhaseArc → Type 0
IsArcOutOf n t h v (Up place) = BeginsAt h v place
IsArcOutOf n t h v (Down place) = BeginsAt h v place
IsArcOutOf n t h v (Other place) = place < arcs_at n t v

-- where it leads, and its letter
abbrev pub arc_of : NetworkLists → TableLists → HierarchyLists → ℕ → Bool → PhaseArc → GraphArc
arc_of n t h v down (Up place) = record { to = phase_node (entry_at h.entries place).to false; letter = letter_at n.roads v }
arc_of n t h v down (Down place) = record { to = phase_node (entry_at h.entries place).to true; letter = letter_at n.roads v }
arc_of n t h v down (Other place) = record { to = phase_node ((plain_meaning n t).arc_at v place).to down; letter = ((plain_meaning n t).arc_at v place).letter }

-- an entry down is taken from a node with a mark to another alone
abbrev pub fall_arrival : HierarchyLists → List Bool → ℕ → ℕ → Option ℕ
fall_arrival h marks place time = if is_fall h marks (entry_at h.entries place) then Some (time + (entry_at h.entries place).weight) else None

-- when it arrives, taken at a time
abbrev pub phase_arrival : NetworkLists → TableLists → HierarchyLists → List Bool → ℕ → ℕ → PhaseArc → Option ℕ
phase_arrival n t h marks v time (Up place) = Some (time + (entry_at h.entries place).weight)
phase_arrival n t h marks v time (Down place) = fall_arrival h marks place time
phase_arrival n t h marks v time (Other place) = (plain_meaning n t).arrive v place time

-- an arc of the plain graph as one before the descent
abbrev pub before_descent : GraphArc → GraphArc
before_descent arc = record { to = phase_node arc.to false; letter = arc.letter }

-- a way of the plain graph as one before the descent, where the places that began at `first` begin at `now`
abbrev pub renumbered : ℕ → ℕ → Way → Way
renumbered first now way = record { place = way.place - first + now; arc = before_descent way.arc; at = way.at }

-- the rides of a run of a pattern, which lead to nodes before the descent
abbrev pub phase_rides : NetworkLists → TableLists → RunRides
phase_rides n t p place call = map (renumbered 0 0) (plain_rides n t p place call)

-- the way may be numbered so: its place is not before the first, nor so far behind that a number runs over
pub record FitsAnew (first : ℕ) (way : Way) : Type 0 where
  pub behind : first ≤ way.place
  pub few : way.place - first < 2 ^ 63 + 2 ^ 34
  pub node : way.arc.to < 2 ^ 31

abbrev pub node_of : ℕ → ℕ
node_of p = p / 2

abbrev pub is_down : ℕ → Bool
is_down p = p % 2 == 1

abbrev pub phase_meaning : NetworkLists → TableLists → HierarchyLists → List Bool → GraphMeaning
phase_meaning n t h marks = record {
  nodes = 2 * length (nodes_of n);
  arcs = λ p. phase_arcs_at n t h (node_of p) (is_down p);
  arc_at = λ p i. arc_of n t h (node_of p) (is_down p) (phase_arc n h (node_of p) (is_down p) i);
  arrive = λ p i time. phase_arrival n t h marks (node_of p) time (phase_arc n h (node_of p) (is_down p) i);
}
