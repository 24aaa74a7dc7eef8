-- The network in which nobody waits for a ride, and each ride takes as long as it does at least, as a graph.
use Rattle.std.specs.Prelude.{ℕ, ◌+◌, List, length, Option, Some}
use Rattle.search_laws.specs.{GraphMeaning}
use Rattle.timetable_arcs.specs.{TableLists}
use Rattle.mode_network.specs.{NetworkLists.NetworkLists, nodes_of}
use Rattle.plain_graph.specs.{PlainArc, Road, Link, Stand, Ride, plain_arc, graph_arc, arcs_at}
use Rattle.departures.specs.{declared.fastest.FastestCall.FastestCall, Fastest.least_ms}

-- when an arc arrives that is taken at a time
abbrev pub least_arrival : List (List FastestCall) → ℕ → PlainArc → Option ℕ
least_arrival runs time (Road arc) = Some (time + arc.ms)
least_arrival runs time (Link link) = Some (time + link.ms)
least_arrival runs time Stand = Some time
least_arrival runs time (Ride ride) = Some (time + least_ms runs ride)

-- the arcs are those of the network's own graph
abbrev pub least_meaning : NetworkLists → TableLists → List (List FastestCall) → GraphMeaning
least_meaning n t runs = record {
  nodes = length (nodes_of n);
  arcs = arcs_at n t;
  arc_at = λ v i. graph_arc n t v (plain_arc n t v i);
  arrive = λ v i time. least_arrival runs time (plain_arc n t v i);
}
