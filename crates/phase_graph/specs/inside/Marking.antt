-- How far the marking of nodes has come: the nodes that have a mark wait in a list, and are followed one after the other.
use Rattle.std.specs.Prelude.{◌≡◌, ℕ, ◌+◌, ◌<◌, ◌≤◌, ◌⊎◌, ◌==◌, Bool, true, List, length, All, AllPairs, Contains, slice_index_or, count_by}
use Rattle.hierarchy.specs.{Entry, HierarchyLists, IsAbove}
use Rattle.phase_graph.specs.{Moves.IsMarked, Marks.has_mark}

-- the number of a node, which is 0 past the end
abbrev pub number_at : List ℕ → ℕ → ℕ
number_at numbers v = slice_index_or numbers v 0

abbrev pub HasNoMarks : List ℕ → Type 0
HasNoMarks numbers = (v : ℕ) → number_at numbers v ≡ 0

-- a node with a mark has 1 while it has no fall
abbrev pub HasNoFalls : List ℕ → Type 0
HasNoFalls numbers = (v : ℕ) → number_at numbers v ≤ 1

-- so many nodes have numbers, which are 0
pub record AreClear (nodes : ℕ) (numbers : List ℕ) : Type 0 where
  pub one_each : length numbers ≡ nodes
  pub none : HasNoMarks numbers

-- the numbers of so many nodes are 1 at the nodes in the list and 0 at the others, of which at most so many can still be set
pub record AreMarks (nodes : ℕ) (numbers : List ℕ) (queue : List ℕ) : Type 0 where
  pub one_each : length numbers ≡ nodes
  pub small : HasNoFalls numbers
  pub listed : (v : ℕ) → 0 < number_at numbers v → Contains queue v
  pub set : (v : ℕ) → Contains queue v → 0 < number_at numbers v
  pub few : count_by (λ number. number == 0) numbers + length queue ≤ nodes

-- all of the list are marked nodes
pub record IsMarking (h : HierarchyLists) (targets : List ℕ) (nodes : ℕ) (numbers : List ℕ) (queue : List ℕ) : Type 0 where
  pub are : AreMarks nodes numbers queue
  pub each : All (IsMarked h targets) queue

-- the later list goes on where the earlier ends
abbrev pub Extends : List ℕ → List ℕ → Type 0
Extends old new = (i d : ℕ) → i < length old → (i < length new) × (slice_index_or new i d ≡ slice_index_or old i d)

-- it has nothing else but v
abbrev pub AreOldOr : ℕ → List ℕ → List ℕ → Type 0
AreOldOr v old new = (u : ℕ) → Contains new u → Contains old u ⊎ (u ≡ v)

-- where the entry at this place leads down to x, the node that it comes from is in the list
abbrev pub IsFollowedAt : HierarchyLists → List ℕ → ℕ → ℕ → Type 0
IsFollowedAt h queue x k = (e : Entry) → k < length h.entries → slice_index_or h.entries k e ≡ e → e.to ≡ x → IsAbove h.order e.from x → Contains queue e.from

abbrev pub IsFollowed : HierarchyLists → List ℕ → ℕ → Type 0
IsFollowed h queue x = (k : ℕ) → IsFollowedAt h queue x k

-- the list has each node whose number is not 0, and no others than have one
pub record AreListed (numbers nodes : List ℕ) : Type 0 where
  pub within : All (λ v. v < length numbers) nodes
  pub others : (v : ℕ) → (Contains nodes v → ⊥) → number_at numbers v ≡ 0

-- the nodes are those with a mark, ascending, and whatever leads down to one of them leaves another
pub record AreMarked (h : HierarchyLists) (marks : List Bool) (nodes : List ℕ) : Type 0 where
  pub ascending : AllPairs (λ v w. v < w) nodes
  pub listed : (v : ℕ) → has_mark marks v ≡ true → Contains nodes v
  pub set : (v : ℕ) → Contains nodes v → has_mark marks v ≡ true
  pub followed : (x : ℕ) → Contains nodes x → IsFollowed h nodes x
