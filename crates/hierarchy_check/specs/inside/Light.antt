-- Parts of the clauses, as the check decides them.
use Rattle.std.specs.Prelude.{◌≡◌, ◌≢◌, ℕ, ◌+◌, ◌-◌, ◌<◌, ◌≤◌, ◌^◌, List, [], ◌∷◌, Option, Some, All, slice_get}
use Rattle.plan_base.specs.{Mode}
use Rattle.hierarchy.specs.{Entry, HierarchyLists, IsAbove, HasEntry, IsBridged, PairsAreBridged, PairIsBridged, NodeIsBridged, FailsFirst}

-- the weights of two entries can be added
abbrev pub IsLight : List Entry → Type 0
IsLight entries = All (λ (e : Entry). e.weight < 2 ^ 56) entries

-- a mode is that of both
abbrev pub IsModeOfBoth : Option Mode → Option Mode → Type 0
IsModeOfBoth a b = (mode : Mode) × (a ≡ Some mode) × (b ≡ Some mode)

-- entries from u to m and from m to v weigh together so much
pub record IsSumOver (entries : List Entry) (u m v weight : ℕ) : Type 0 where
  pub first : ℕ
  pub second : ℕ
  pub is_first : HasEntry entries u m first
  pub is_second : HasEntry entries m v second
  pub sum : weight ≡ first + second

-- an entry leads from u to a node above x, and leaves so much of what may be weighed
pub record CanStep (h : HierarchyLists) (x u y have left : ℕ) : Type 0 where
  pub weight : ℕ
  pub entry : HasEntry h.entries u y weight
  pub within : weight ≤ have
  pub above : IsAbove h.order y x
  pub left_is : left ≡ have - weight

-- entries lead from u to these nodes in turn, which are above x, and weigh at most so much
abbrev pub CanWalk : HierarchyLists → ℕ → ℕ → List ℕ → ℕ → Type 0
CanWalk h x u [] have = Unit {0}
CanWalk h x u (y ∷ nodes) have = (left : ℕ) × CanStep h x u y have left × CanWalk h x y nodes left

-- an entry to x is bridged with one up from there
abbrev pub RiseIsBridged : HierarchyLists → ℕ → Entry → Entry → Type 0
RiseIsBridged h x a b = b.to ≢ a.from → IsBridged h x a.from b.to (a.weight + b.weight)

-- the first entry to x, and the first entry from x, that are not bridged
pub record FirstUnbridgedAt (h : HierarchyLists) (x at by : ℕ) : Type 0 where
  pub first : Entry
  pub first_is : slice_get h.entries at ≡ Some first
  pub entry_fails : FailsFirst (PairsAreBridged h x) h.entries at
  pub pair_fails : FailsFirst (PairIsBridged h x first) h.entries by

-- the first node of the order that is not bridged, with these entries
pub record FirstUnbridged (h : HierarchyLists) (place at by : ℕ) : Type 0 where
  pub x : ℕ
  pub node_is : slice_get h.order place ≡ Some x
  pub node_fails : FailsFirst (NodeIsBridged h) h.order place
  pub pair : FirstUnbridgedAt h x at by
