-- The least arrivals at nodes of the network, before the descent or in it.
use Rattle.std.specs.Prelude.{◌≡◌, ℕ, ◌<◌, List, length, slice_index, slice_index_or, Option, None, Some, Contains}
use Rattle.search_laws.specs.{GraphMeaning, LabelsMeaning}
use Rattle.mode_network.specs.NetworkLists.{NetworkLists}
use Rattle.hierarchy.specs.{HierarchyLists}
use Rattle.product_search.specs.{IsArrival}
use Rattle.phase_graph.specs.{IsInUse, target_numbers, node_of}

-- the least arrival at the numbers of v, over the phase graph for any targets among which v is
abbrev pub IsNodeArrival : NetworkLists → HierarchyLists → LabelsMeaning → List ℕ → ℕ → ℕ → Option ℕ → Type 0
IsNodeArrival n h l starts dep v arrival =
    (targets : List ℕ) (g : GraphMeaning) → IsInUse n (Some h) targets g → Contains targets v → IsArrival g l starts (target_numbers h v) dep None arrival

-- for each number, in order, the least arrival at its node, or None
pub record AreNodeArrivals (n : NetworkLists) (h : HierarchyLists) (l : LabelsMeaning) (starts : List ℕ) (dep : ℕ) (ends : List ℕ) (times : List (Option ℕ)) : Type 0 where
  pub one_each : length times ≡ length ends
  pub are : (k : ℕ) → k < length ends → IsNodeArrival n h l starts dep (node_of (slice_index ends k)) (slice_index_or times k None)
