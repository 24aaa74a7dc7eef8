-- The verdict by the clauses on nodes alone, 1 and 5.
use Rattle.std.specs.Prelude.{All}
use Rattle.mode_network.specs.NetworkLists.{NetworkLists}
use Rattle.hierarchy.specs.{Verdict, Sound, Broken, HierarchyLists, FitsLayer, OrderHolds, IsFirstBroken}

-- the order and the entries keep the clauses 1 and 5, so that they name nodes of the network alone
abbrev pub HasNodes : NetworkLists → HierarchyLists → Type 0
HasNodes n h = OrderHolds n h × All (FitsLayer n) h.entries

-- both clauses hold, or the first clause that fails is one of them
abbrev pub IsNodesVerdict : NetworkLists → HierarchyLists → Verdict → Type 0
IsNodesVerdict n h Sound = HasNodes n h
IsNodesVerdict n h (Broken clause at by) = IsFirstBroken n h clause at by
