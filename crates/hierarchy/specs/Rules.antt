-- What every hierarchy keeps, whether it is sound or not.
use Rattle.std.specs.Prelude.{ℕ, ◌<◌, ◌≤◌, ◌^◌, length, All, IfSome}
use Rattle.std.specs.Ordering.{ordering_then, nat_cmp}
use Rattle.std.specs.declared.cmp.Ordering.{Ordering}
use Rattle.mode_network.specs.{IsAscending}
use Rattle.hierarchy.specs.{declared.entry.Entry.Entry, Lists.HierarchyLists, Lists.WitnessLists, Lists.first_of, Lists.last_of}

-- by the node that an entry leaves, and then by the node that it leads to
abbrev pub entry_cmp : Entry → Entry → Ordering
entry_cmp a b = ordering_then (nat_cmp a.from b.from) (nat_cmp a.to b.to)

-- by the node that a walk is listed for, and then by its first and its last node
abbrev pub witness_cmp : WitnessLists → WitnessLists → Ordering
witness_cmp a b = ordering_then (ordering_then (nat_cmp a.below b.below) (nat_cmp (first_of a.nodes) (first_of b.nodes))) (nat_cmp (last_of a.nodes) (last_of b.nodes))

-- the number of a node of a network
abbrev pub IsNode : ℕ → Type 0
IsNode v = v < 2 ^ 24

pub record FitsEntry (e : Entry) : Type 0 where
  pub from : IsNode e.from
  pub to : IsNode e.to
  pub via : IfSome e.via IsNode

pub record FitsWitness (w : WitnessLists) : Type 0 where
  pub below : IsNode w.below
  pub nodes : All IsNode w.nodes
  pub is_walk : 2 ≤ length w.nodes

pub record IsHierarchy (h : HierarchyLists) : Type 0 where
  pub order_fits : All IsNode h.order
  pub entries_fit : All FitsEntry h.entries
  pub entries_ascend : IsAscending entry_cmp h.entries
  pub witnesses_fit : All FitsWitness h.witnesses
  pub witnesses_ascend : IsAscending witness_cmp h.witnesses
