-- Nodes whose arrivals a slope tells.
use Rattle.std.specs.Prelude.{ℕ, ◌<◌, List, length, Contains}
use Rattle.mode_network.specs.{NetworkLists.NetworkLists, nodes_of}
use Rattle.hierarchy.specs.{HierarchyLists, IsContracted}

-- a node of the network, which is one of these on a slope if it is contracted
abbrev pub IsServedOn : NetworkLists → HierarchyLists → List ℕ → ℕ → Type 0
IsServedOn n h slope v = (v < length (nodes_of n)) × (IsContracted h.order v → Contains slope v)
