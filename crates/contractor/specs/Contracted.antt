-- What contraction makes of a network.
use Rattle.std.specs.Prelude.{◌≡◌, ◌≢◌, ℕ, zero, suc, ◌+◌, ◌-◌, ◌≤◌, ◌&&◌, Bool, not, List, length, All, None, if◌then◌else◌, is_some}
use Rattle.mode_network.specs.{NetworkLists.NetworkLists, nodes_of, mode_at, is_end_of, Leads}
use Rattle.hierarchy.specs.{Entry, Hop, AreHops, total, HierarchyLists, IsSound, HasRoads}

-- a road node that no link joins: these may be contracted
abbrev pub is_free : NetworkLists → ℕ → Bool
is_free n v = is_some (mode_at n.roads v) && not (is_end_of n.links v)

-- how many of the nodes with numbers below k are free
abbrev pub free_below : NetworkLists → ℕ → ℕ
free_below n zero = 0
free_below n (suc k) = free_below n k + (if is_free n k then 1 else 0)

abbrev pub free_count : NetworkLists → ℕ
free_count n = free_below n (length (nodes_of n))

-- roads lead from u to v in this time, and none in less
pub record IsDistance (n : NetworkLists) (u v weight : ℕ) : Type 0 where
  pub roads : HasRoads n u v weight
  pub least : (roads : List Hop) → AreHops (Leads n.arcs) u roads v → weight ≤ total roads

abbrev pub IsTrueDistance : NetworkLists → Entry → Type 0
IsTrueDistance n e = e.via ≢ None → IsDistance n e.from e.to e.weight

-- A sound hierarchy lists distinct free nodes, so its core is all nodes that are not free, and of the free ones as many as
-- were to be kept, or all where there are fewer. Each shortcut weighs what the roads between its ends take at least.
pub record IsContractedTo (n : NetworkLists) (keep : ℕ) (h : HierarchyLists) : Type 0 where
  pub sound : IsSound n h
  pub core : length h.order ≡ free_count n - keep
  pub distances : All (IsTrueDistance n) h.entries
