-- What rounds are made of.
use Rattle.std.specs.Prelude.{◌≡◌, ℕ, ◌<◌, ◌≤◌, true, false, List, [], length, All, Contains, Some, slice_get}
use Rattle.timetable_arcs.specs.{IsTable}
use Rattle.mode_network.specs.{NetworkLists.NetworkLists, nodes_of, IsTimetableOf}
use Rattle.hierarchy.specs.{HierarchyLists, IsCore, IsSound, has_legs}
use Rattle.phase_graph.specs.{phase_node, IsInUse, starts_in, meaning_in_use}
use Rattle.phase_graph.specs.InUseGraph.{steady_in_use, network_in, hierarchy_in}
use Rattle.rounds.specs.{Layers.CoreLeads, Layers.IsCoreLayer, Layers.AreGates, Layers.CoreLayer, Crossings.IsQuiet, Lines.AreLines}
pub use Rattle.rounds.specs.declared.rounds.Rounds.{Rounds}

-- The hierarchy is sound for the network, and the graph is its phase graph for no targets. The layers are those of the core by the letters
-- of their modes, with their gates to the crossings, which are core nodes; no other nodes have links or rides. The lines are those of the
-- network's timetable.
pub record AreRounds (r : Rounds) : Type 0 where
  pub sound : IsSound r.network.now r.hierarchy.now
  pub short : has_legs r.hierarchy.now ≡ true
  pub in_use : IsInUse r.network.now (Some r.hierarchy.now) [] (meaning_in_use r.graph)
  pub network_is : network_in r.graph ≡ r.network.now
  pub hierarchy_is : hierarchy_in r.graph ≡ Some r.hierarchy.now
  pub crossings : All (IsCore r.hierarchy.now.order) r.crossings.items
  pub quiet : (v : ℕ) → v < length (nodes_of r.network.now) → (Contains r.crossings.items v → ⊥) → IsQuiet r.network.now (meaning_in_use r.graph) v (steady_in_use r.graph (phase_node v false))
  pub longest : (u v w : ℕ) → CoreLeads r.hierarchy.now u v w → w ≤ r.longest
  pub many : length r.layers.items ≡ 3
  pub layers : (letter : ℕ) (layer : CoreLayer) → slice_get r.layers.items letter ≡ Some layer
      → IsCoreLayer r.network.now r.hierarchy.now letter layer.sheet × AreGates layer.sheet.slope.nodes.items r.crossings.items layer.gates.items
  pub table : IsTable r.timetable.now
  pub timetable_of : IsTimetableOf r.network.now r.timetable.now
  pub lines : AreLines r.network.now r.timetable.now r.crossings.items r.lines.items

-- these are the numbers of some nodes of the network before any descent
pub record AreStartsIn (n : NetworkLists) (h : HierarchyLists) (starts : List ℕ) : Type 0 where
  pub origins : List ℕ
  pub are : starts ≡ starts_in (Some h) origins
  pub within : All (λ v. v < length (nodes_of n)) origins

abbrev pub AreStarts : Rounds → List ℕ → Type 0
AreStarts r = AreStartsIn r.network.now r.hierarchy.now
