-- What a network keeps beside its lists, so that they are found fast.
use Rattle.std.specs.Prelude.{◌≡◌, ℕ, ◌+◌, ◌<◌, ◌≤◌, ◌==◌, ◌||◌, nat_lt, Bool, List, length, map, count_by, slice_range, slice_index_or}
use Rattle.std.specs.List.{list_any}
use Rattle.search_laws.specs.{Leg}
use Rattle.mode_network.specs.{declared.nodes.Arc.Arc, declared.nodes.Node.Node, NetworkLists.NetworkLists, NetworkLists.nodes_of, NetworkLists.mode_at}
pub use Rattle.mode_network.specs.declared.indexes.NodeRow.{NodeRow}

-- how many rows have a key below v
abbrev pub count_below : {X : Type 0} → (X → ℕ) → List X → ℕ → ℕ
count_below key rows v = count_by (λ row. nat_lt (key row) v) rows

-- where those whose key is v stand in a list that is ordered by the key: the first place, and one past the last
abbrev pub range_of : {X : Type 0} → (X → ℕ) → List X → ℕ → ℕ × ℕ
range_of key rows v = (count_below key rows v, count_below key rows (v + 1))

-- how many arcs begin below the node v, and where those that begin at v stand in a list that is ordered by `from`
abbrev pub arcs_begun_below : List Arc → ℕ → ℕ
arcs_begun_below = count_below (λ arc. arc.from)

abbrev pub range_from : List Arc → ℕ → ℕ × ℕ
range_from = range_of (λ arc. arc.from)

-- where an arc leads, and how long it takes
abbrev pub leg_of : Arc → Leg
leg_of arc = record { to = arc.to; ms = arc.ms }

-- the same of those that begin at v
abbrev pub legs_from : List Arc → ℕ → List Leg
legs_from arcs v = slice_range (map leg_of arcs) (range_from arcs v).0 (range_from arcs v).1

-- a range of places of a list
abbrev pub IsRange : {X : Type 0} → ℕ × ℕ → List X → Type 0
IsRange range xs = (range.0 ≤ range.1) × (range.1 ≤ length xs)

-- some arc begins or ends at v
abbrev pub is_end_of : List Arc → ℕ → Bool
is_end_of arcs v = list_any (λ arc. (arc.from == v) || (arc.to == v)) arcs

-- what is kept of the node v: its mode, and how many arcs and links begin below it
abbrev pub node_row : List Node → List Arc → List Arc → ℕ → NodeRow
node_row roads arcs links v = record { mode = mode_at roads v; arcs = arcs_begun_below arcs v; links = arcs_begun_below links v }

-- the rows of so many nodes, and one for one past the last
pub record AreNodeRows (nodes : ℕ) (roads : List Node) (arcs links : List Arc) (rows : List NodeRow) : Type 0 where
  pub one_more : length rows ≡ nodes + 1
  pub are : (v : ℕ) (d : NodeRow) → v ≤ nodes → slice_index_or rows v d ≡ node_row roads arcs links v

pub record AreEndMarks (nodes : ℕ) (arcs : List Arc) (ends : List Bool) : Type 0 where
  pub one_each : length ends ≡ nodes
  pub are : (v : ℕ) (d : Bool) → v < nodes → slice_index_or ends v d ≡ is_end_of arcs v

pub record AreIndexes (n : NetworkLists) (table : List NodeRow) (linked : List Bool) : Type 0 where
  pub rows : AreNodeRows (length (nodes_of n)) n.roads n.arcs n.links table
  pub ends : AreEndMarks (length (nodes_of n)) n.links linked
