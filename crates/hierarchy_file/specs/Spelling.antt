-- The one spelling of a hierarchy.
use Rattle.std.specs.Prelude.{ℕ, ◌<◌, ◌^◌, List, ◌++◌, length, codes, All, Option, Some, None, flat_map}
use Rattle.std.specs.Int.{w32, w64, to_be_bytes}
use Rattle.std.specs.Ordering.{ordering_then, nat_cmp}
use Rattle.std.specs.declared.cmp.Ordering.{Ordering}
use Rattle.hierarchy.specs.{Entry, HierarchyLists, WitnessLists, first_of, last_of, FitsEntry, FitsWitness, IsHierarchy}
pub use Rattle.hierarchy_file.specs.declared.head.Counts.{Counts}

abbrev pub magic : List ℕ
magic = codes "MPHIER01"

abbrev pub counts_text : Counts → List ℕ
counts_text c = to_be_bytes w64 c.order ++ to_be_bytes w64 c.entries ++ to_be_bytes w64 c.witnesses

abbrev pub node_in_bytes : ℕ → List ℕ
node_in_bytes v = to_be_bytes w32 v

-- no middle node is spelled as the greatest number
abbrev pub middle_number : Option ℕ → ℕ
middle_number None = 0xffffffff
middle_number (Some m) = m

abbrev pub entry_text : Entry → List ℕ
entry_text e = node_in_bytes e.from ++ node_in_bytes e.to ++ to_be_bytes w64 e.weight ++ to_be_bytes w32 (middle_number e.via)

abbrev pub witness_text : WitnessLists → List ℕ
witness_text w = node_in_bytes w.below ++ to_be_bytes w64 (length w.nodes) ++ flat_map node_in_bytes w.nodes

abbrev pub hierarchy_counts : HierarchyLists → Counts
hierarchy_counts h = record { order = length h.order; entries = length h.entries; witnesses = length h.witnesses }

abbrev pub records_text : HierarchyLists → List ℕ
records_text h = flat_map node_in_bytes h.order ++ flat_map entry_text h.entries ++ flat_map witness_text h.witnesses

unfoldable pub hierarchy_text : HierarchyLists → List ℕ
hierarchy_text h = magic ++ counts_text (hierarchy_counts h) ++ records_text h

-- what has a spelling
pub record FitEightBytes (c : Counts) : Type 0 where
  pub order : c.order < 2 ^ 64
  pub entries : c.entries < 2 ^ 64
  pub witnesses : c.witnesses < 2 ^ 64

pub record FitsRow (e : Entry) : Type 0 where
  pub fits : FitsEntry e
  pub weight : e.weight < 2 ^ 64

pub record FitsWalk (w : WitnessLists) : Type 0 where
  pub fits : FitsWitness w
  pub short : length w.nodes < 2 ^ 64

-- a hierarchy whose numbers fit their fields
pub record HasSpelling (h : HierarchyLists) : Type 0 where
  pub rules : IsHierarchy h
  pub order_short : length h.order < 2 ^ 64
  pub entries_short : length h.entries < 2 ^ 64
  pub witnesses_short : length h.witnesses < 2 ^ 64
  pub weights_fit : All (λ (e : Entry). e.weight < 2 ^ 64) h.entries
  pub nodes_short : All (λ (w : WitnessLists). length w.nodes < 2 ^ 64) h.witnesses

-- ---- what records are ordered by

abbrev pub pair_cmp : ℕ × ℕ → ℕ × ℕ → Ordering
pair_cmp a b = ordering_then (nat_cmp a.0 b.0) (nat_cmp a.1 b.1)

abbrev pub three_cmp : ℕ × ℕ × ℕ → ℕ × ℕ × ℕ → Ordering
three_cmp a b = ordering_then (ordering_then (nat_cmp a.0 b.0) (nat_cmp a.1 b.1)) (nat_cmp a.2 b.2)

abbrev pub key_of_entry : Entry → ℕ × ℕ
key_of_entry e = (e.from, e.to)

abbrev pub key_of_witness : WitnessLists → ℕ × ℕ × ℕ
key_of_witness w = (w.below, first_of w.nodes, last_of w.nodes)
