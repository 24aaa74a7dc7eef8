-- The entries that lead down from a node with a mark to another: those of each node are a chain, in the order of their places.
use Rattle.std.specs.Prelude.{◌≡◌, ℕ, ◌+◌, ◌-◌, ◌<◌, ◌≤◌, ◌==◌, Bool, true, List, [], ◌∷◌, ◌++◌, length, map, filter, Option, slice_index_or, flat_map}
use Rattle.std.specs.List.{range_with_len}
use Rattle.std.proofs.Props.{props}
use Rattle.search_laws.specs.{Way}
use Rattle.hierarchy.specs.{HierarchyLists, entry_at, falls_to, places_of}
use Rattle.phase_graph.specs.{declared.falls.ChainedFall.ChainedFall, declared.falls.Fall.Fall, declared.falls.FallChains.FallChains, Arcs.phase_node, Marks.is_fall, Marks.marks_in, PhaseArcs.entries_at, PhaseArcs.first_entry}

-- the entry at a place, which leads into the descent
abbrev pub fall_at : HierarchyLists → ℕ → Fall
fall_at h place = record { place = place; to = phase_node (entry_at h.entries place).to true; weight = (entry_at h.entries place).weight }

-- those at so many places, from one on, that lead down from a node with a mark to another
abbrev pub falls_from : HierarchyLists → List Bool → ℕ → ℕ → List Fall
falls_from h marks first count = map (fall_at h) (filter (λ place. is_fall h marks (entry_at h.entries place)) (range_with_len first count))

-- the fall is at one of so many places, from one on
pub record IsFallFrom (first count : ℕ) (fall : Fall) : Type 0 where
  pub low : first ≤ fall.place
  pub high : fall.place < first + count

-- the entry at this place leads down from a node with a mark to another
abbrev pub IsFallAt : HierarchyLists → List Bool → ℕ → Type 0
IsFallAt h marks place = (place < length h.entries) × (is_fall h marks (entry_at h.entries place) ≡ true)

-- the places of the entries that lead down to a node
abbrev pub places_into : HierarchyLists → ℕ → List ℕ
places_into h x = places_of (falls_to h.order x) h.entries

-- and to one node after the other
abbrev pub places_into_all : HierarchyLists → List ℕ → List ℕ
places_into_all h nodes = flat_map (places_into h) nodes

-- ---- in chains

-- what has a number and 2
abbrev pub chained_at : List ChainedFall → ℕ → ChainedFall
chained_at all number = slice_index_or all (number - 2) (record { fall = record { place = 0; to = 0; weight = 0 }; next = 0 })

-- from the one with this number and 2 on the chain has these falls; each of them was put before the next
abbrev pub IsChain : List ChainedFall → ℕ → List Fall → Type 0
IsChain all number [] = number ≤ 1
IsChain all number (fall ∷ falls) = (1 < number) × (number ≤ length all + 1) × ((chained_at all number).fall ≡ fall) × ((chained_at all number).next < number) × IsChain all (chained_at all number).next falls

-- those of the places where entries leave v
abbrev pub places_from : HierarchyLists → List ℕ → ℕ → List ℕ
places_from h places v = filter (λ place. (entry_at h.entries place).from == v) places

-- the chain of each node has the falls at those of these places where entries leave it, in their order
abbrev pub AreChains : HierarchyLists → List ℕ → List ChainedFall → List ℕ → Type 0
AreChains h places all first = (v : ℕ) → IsChain all (slice_index_or first v 0) (map (fall_at h) (places_from h places v))

-- the falls to x are put before the others of their chains
pub record PutsFalls (h : HierarchyLists) (x : ℕ) (old new : FallChains) : Type 0 where
  pub chains : (places : List ℕ) → AreChains h places old.all.items old.first.items → AreChains h (places_into h x ++ places) new.all.items new.first.items
  pub marks : marks_in new.first.items ≡ marks_in old.first.items

-- the chain of each node has its falls
abbrev pub HasFalls : HierarchyLists → List Bool → List ChainedFall → List ℕ → Type 0
HasFalls h marks all first = (v : ℕ) → IsChain all (slice_index_or first v 0) (falls_from h marks (first_entry h v) (entries_at h v))

-- there is one proof at most that it has
IsChain-prop : (all : List ChainedFall) (number : ℕ) (falls : List Fall) → IsProp (IsChain all number falls)
IsChain-prop all number [] = hlevel props
IsChain-prop all number (fall ∷ falls) = hlevel (props, IsChain-prop all (chained_at all number).next falls)

pub HasFalls-prop : (h : HierarchyLists) (marks : List Bool) (all : List ChainedFall) (first : List ℕ) → IsProp (HasFalls h marks all first)
HasFalls-prop h marks all first = hlevel (props, IsChain-prop)

-- ---- as ways

-- a fall as a way, where the places that began at `first` begin at `now`
abbrev pub fall_way : Option ℕ → ℕ → ℕ → ℕ → Fall → Way
fall_way letter time first now fall = record { place = fall.place - first + now; arc = record { to = fall.to; letter = letter }; at = time + fall.weight }
