-- What is left of a layer: for each node the ways out of it.
use Rattle.std.specs.Prelude.{◌≡◌, ℕ, ◌<◌, ◌≤◌, ◌^◌, List, [], Option, None, Some, IfSome, length, slice_get, Contains, Vec}
use Rattle.std.specs.declared.alloc.Global.{Global}
pub use Rattle.witness.specs.declared.edge.Edge.{Edge}
use Rattle.hierarchy.specs.{Hop, AreHops, total, nodes_along}

abbrev pub items_of : Option (Vec Edge Global) → List Edge
items_of None = []
items_of (Some row) = row.items

-- the row of a node; a number past all rows has none
abbrev pub row_at : List (Vec Edge Global) → ℕ → List Edge
row_at rows v = items_of (slice_get rows v)

-- a way leads from u to v and weighs so much
abbrev pub HasEdge : List (Vec Edge Global) → ℕ → ℕ → ℕ → Type 0
HasEdge rows u v weight = (entry : ℕ) × Contains (row_at rows u) (record { to = v; entry = entry; weight = weight })

pub record IsEdgeOf (nodes : ℕ) (edge : Edge) : Type 0 where
  pub to : edge.to < nodes
  pub positive : 0 < edge.weight
  pub light : edge.weight < 2 ^ 56

-- each way leads to a node that has a row, and takes time
pub record AreEdgeRows (rows : List (Vec Edge Global)) : Type 0 where
  pub few : length rows ≤ 2 ^ 24
  pub edges : (u : ℕ) (edge : Edge) → Contains (row_at rows u) edge → IsEdgeOf (length rows) edge

-- the nodes are those of a walk from u to v that weighs at most the limit
pub record IsWalkWithin (rows : List (Vec Edge Global)) (u v limit : ℕ) (nodes : List ℕ) : Type 0 where
  pub hops : List Hop
  pub walk : AreHops (HasEdge rows) u hops v
  pub within : total hops ≤ limit
  pub are : nodes ≡ nodes_along u hops

-- what was found, if anything, is such a walk
abbrev pub IsFoundWithin : List (Vec Edge Global) → ℕ → ℕ → ℕ → Option (Vec ℕ Global) → Type 0
IsFoundWithin rows u v limit found = IfSome found (λ nodes. IsWalkWithin rows u v limit nodes.items)

-- each walk from u to v weighs more
abbrev pub NoWalkWithin : List (Vec Edge Global) → ℕ → ℕ → ℕ → Type 0
NoWalkWithin rows u v limit = (hops : List Hop) → AreHops (HasEdge rows) u hops v → limit < total hops
