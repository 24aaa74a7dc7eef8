-- What the graph in use answers, and what it is made of.
use Rattle.std.specs.Prelude.{ℕ, length, Option, Some, None}
use Rattle.search_laws.specs.{RunRides, GraphMeaning, IsLawfulGraph}
use Rattle.mode_network.specs.NetworkLists.{NetworkLists}
use Rattle.hierarchy.specs.{HierarchyLists}
use Rattle.plain_graph.specs.{plain_rides, plain_meaning, count_from}
pub use Rattle.phase_graph.specs.{declared.in_use.GraphInUse.GraphInUse, declared.in_use.GraphInUse.TheVariants.Plain, declared.in_use.GraphInUse.TheVariants.Phases}
use Rattle.phase_graph.specs.{Marks.marks_in, PhaseArcs.phase_meaning, PhaseArcs.phase_rides, PhaseArcs.legs_at, PhaseArcs.node_of, PhaseArcs.is_down}

abbrev pub meaning_in_use : GraphInUse → GraphMeaning
meaning_in_use (Plain p) = plain_meaning p.network.now p.timetable.now
meaning_in_use (Phases p) = phase_meaning p.plain.network.now p.plain.timetable.now p.hierarchy.now (marks_in p.falls.first.items)

-- how many steady arcs a node has: its road arcs, or the entries that lead up from it or along the core
abbrev pub steady_in_use : GraphInUse → ℕ → ℕ
steady_in_use (Plain p) v = count_from p.network.now.arcs v
steady_in_use (Phases p) v = length (legs_at p.hierarchy.now (node_of v) (is_down v))

abbrev pub rides_in_use : GraphInUse → RunRides
rides_in_use (Plain p) = plain_rides p.network.now p.timetable.now
rides_in_use (Phases p) = phase_rides p.plain.network.now p.plain.timetable.now

abbrev pub network_in : GraphInUse → NetworkLists
network_in (Plain p) = p.network.now
network_in (Phases p) = p.plain.network.now

abbrev pub hierarchy_in : GraphInUse → Option HierarchyLists
hierarchy_in (Plain p) = None
hierarchy_in (Phases p) = Some p.hierarchy.now

pub lawful_in_use : (g : GraphInUse) → IsLawfulGraph (meaning_in_use g)
lawful_in_use (Plain p) = p.lawful
lawful_in_use (Phases p) = p.lawful
