-- A search from one node: what is known of others, and who waits.
use Rattle.std.specs.Prelude.{◌≡◌, ◌≢◌, ℕ, ◌+◌, ◌*◌, ◌<◌, ◌≤◌, ◌⊎◌, ◌==◌, List, [], ◌∷◌, length, Contains, IsPermutation, Vec, slice_set, if◌then◌else◌, sum_by}
use Rattle.std.specs.BinaryHeap.{heap_items, heap_len, IsHeap, KeepsHeap}
use Rattle.std.specs.Ordering.{ordering_then, nat_cmp}
use Rattle.std.specs.declared.cmp.Ordering.{Ordering}
use Rattle.std.specs.declared.cmp.Reverse.{Reverse}
use Rattle.std.specs.declared.alloc.Global.{Global}
use Rattle.witness.specs.{declared.edge.Edge.Edge, declared.place.Place.Place, declared.workspace.Workspace.Workspace, inside.Places.Known, inside.Places.IsKnownWithin, Rows.HasEdge}

abbrev pub waiting_of : ℕ → ℕ → Reverse (ℕ × ℕ)
waiting_of at v = record { 0 = (at, v) }

-- of two pairs that wait the lighter is the greater, so a heap gives the lightest first
abbrev pub waiting_cmp : Reverse (ℕ × ℕ) → Reverse (ℕ × ℕ) → Ordering
waiting_cmp x y = ordering_then (nat_cmp y.0.0 x.0.0) (nat_cmp y.0.1 x.0.1)

abbrev pub Knows : Workspace → ℕ → ℕ → ℕ → Type 0
Knows w v at parent = Known w.places.items w.round v at parent

abbrev pub Reaches : Workspace → ℕ → ℕ → Type 0
Reaches w v limit = IsKnownWithin w.places.items w.round v limit

abbrev pub IsKnownNode : Workspace → ℕ → Type 0
IsKnownNode w v = (at : ℕ) × (parent : ℕ) × Knows w v at parent

abbrev pub IsKnownAt : Workspace → ℕ → ℕ → Type 0
IsKnownAt w v at = (parent : ℕ) × Knows w v at parent

abbrev pub WaitsAt : Workspace → ℕ → ℕ → Type 0
WaitsAt w v at = Contains (heap_items w.waiting) (waiting_of at v)

-- nothing is known yet
pub record IsFresh (w : Workspace) (nodes first most : ℕ) : Type 0 where
  pub count : length w.places.items ≡ nodes
  pub start : w.start ≡ first
  pub most_is : w.most ≡ most
  pub unknown : (v at parent : ℕ) → Knows w v at parent → ⊥
  pub nobody : heap_items w.waiting ≡ []
  pub ordered : IsHeap waiting_cmp (heap_items w.waiting)

-- the search is the same
pub record IsSameRound (old new : Workspace) : Type 0 where
  pub round : new.round ≡ old.round
  pub start : new.start ≡ old.start
  pub most : new.most ≡ old.most

-- no walk to the node was known, or all were heavier; this one is known now, and waits
pub record TakesWalk (old new : Workspace) (to at parent : ℕ) : Type 0 where
  pub heavier : Reaches old to at → ⊥
  pub places : new.places.items ≡ slice_set old.places.items to (record { at = at; parent = parent; round = old.round })
  pub waiting : IsPermutation (waiting_of at to ∷ heap_items old.waiting) (heap_items new.waiting)
  pub ordered : KeepsHeap waiting_cmp (heap_items old.waiting) (heap_items new.waiting)
  pub one_more : heap_len new.waiting ≡ heap_len old.waiting + 1

-- a walk to the node is no heavier, and nothing has changed
pub record Leaves (old new : Workspace) (to at : ℕ) : Type 0 where
  pub lighter : Reaches old to at
  pub places : new.places.items ≡ old.places.items
  pub waiting : new.waiting ≡ old.waiting

pub record IsWalkOffered (old new : Workspace) (to at parent : ℕ) : Type 0 where
  pub same : IsSameRound old new
  pub offered : TakesWalk old new to at parent ⊎ Leaves old new to at

-- v is reached by way of p
pub record HasParent (rows : List (Vec Edge Global)) (w : Workspace) (v at p : ℕ) : Type 0 where
  pub before : ℕ
  pub weight : ℕ
  pub reached : Reaches w p before
  pub edge : HasEdge rows p v weight
  pub sum : before + weight ≡ at

-- what the ways out of v lead to within the search is reached
abbrev pub IsRelaxed : List (Vec Edge Global) → ℕ → Workspace → ℕ → ℕ → Type 0
IsRelaxed rows most w v at = (to weight : ℕ) → HasEdge rows v to weight → at + weight ≤ most → Reaches w to (at + weight)

-- each node that is reached waits, is dealt with now, or is closed
pub record IsSearch (rows : List (Vec Edge Global)) (most : ℕ) (busy : ℕ → ℕ → Type 0) (w : Workspace) : Type 0 where
  pub count : length w.places.items ≡ length rows
  pub begun : Reaches w w.start 0
  pub within : (v at parent : ℕ) → Knows w v at parent → at ≤ most
  pub parents : (v at parent : ℕ) → Knows w v at parent → v ≢ w.start → HasParent rows w v at parent
  pub dealt : (v at parent : ℕ) → Knows w v at parent → WaitsAt w v at ⊎ busy v at ⊎ IsRelaxed rows most w v at
  pub ordered : IsHeap waiting_cmp (heap_items w.waiting)

abbrev pub IsBusy : ℕ → ℕ → ℕ → ℕ → Type 0
IsBusy node time v at = (v ≡ node) × (at ≡ time)

abbrev pub NobodyBusy : ℕ → ℕ → Type 0
NobodyBusy v at = ⊥

-- what a place counts for: the weight that is known, or one more than the most
abbrev pub left_of : ℕ → ℕ → Place → ℕ
left_of round most place = if place.round == round then place.at else (most + 1)

-- falls with each turn: a walk that is taken takes one off the sum, and waits
abbrev pub work : ℕ → Workspace → ℕ
work most w = heap_len w.waiting + 2 * sum_by (left_of w.round most) w.places.items

abbrev pub IsNoMoreWork : Workspace → Workspace → Type 0
IsNoMoreWork old new = work old.most new ≤ work old.most old

-- what was reached is reached still
abbrev pub AreLower : Workspace → Workspace → Type 0
AreLower old new = (v limit : ℕ) → Reaches old v limit → Reaches new v limit

abbrev pub IsEdgeClosed : ℕ → Workspace → ℕ → Edge → Type 0
IsEdgeClosed most w at edge = at + edge.weight ≤ most → Reaches w edge.to (at + edge.weight)

-- who waits is further away
abbrev pub NobodyWaitsWithin : Workspace → ℕ → Type 0
NobodyWaitsWithin w limit = (v at : ℕ) → WaitsAt w v at → limit < at

-- what is known is the same
pub record IsSame (old new : Workspace) : Type 0 where
  pub same : IsSameRound old new
  pub places : new.places.items ≡ old.places.items

-- a pair was taken from those that wait
pub record IsNext (old new : Workspace) (at v : ℕ) : Type 0 where
  pub same : IsSame old new
  pub waiting : IsPermutation (heap_items old.waiting) (waiting_of at v ∷ heap_items new.waiting)
  pub ordered : KeepsHeap waiting_cmp (heap_items old.waiting) (heap_items new.waiting)
  pub one_less : heap_len new.waiting + 1 ≡ heap_len old.waiting

-- a way from u to v was listed, in the place of those from u to v
pub record IsEdgePut (old new : List (Vec Edge Global)) (u v weight : ℕ) : Type 0 where
  pub count : length new ≡ length old
  pub there : HasEdge new u v weight
  pub kept : (a b w : ℕ) → HasEdge old a b w → HasEdge new a b w ⊎ ((a ≡ u) × (b ≡ v))
  pub made : (a b w : ℕ) → HasEdge new a b w → HasEdge old a b w ⊎ ((a ≡ u) × (b ≡ v) × (w ≡ weight))
