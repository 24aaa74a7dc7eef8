-- The marks of nodes: one has a mark where a chain of entries, each to a lower node, leads from it to a target.
use Rattle.std.specs.Prelude.{◌≡◌, ℕ, Bool, true, false, ◌&&◌, ◌<◌, nat_lt, List, length, map, slice_index_or}
use Rattle.hierarchy.specs.{Entry, HierarchyLists, is_above, AreBelow}
use Rattle.phase_graph.specs.Moves.{IsMarked}

-- the marks are listed by node; nodes past the end have none
abbrev pub has_mark : List Bool → ℕ → Bool
has_mark marks v = slice_index_or marks v false

-- nodes have numbers, which are 0 where they have no mark
abbrev pub marks_in : List ℕ → List Bool
marks_in numbers = map (λ number. nat_lt 0 number) numbers

-- these are the marks for the targets
pub record AreMarksFor (h : HierarchyLists) (targets : List ℕ) (marks : List Bool) : Type 0 where
  pub long : AreBelow h (length marks)
  pub each : (v : ℕ) → has_mark marks v ≡ true → IsMarked h targets v
  pub all : (v : ℕ) → v < length marks → IsMarked h targets v → has_mark marks v ≡ true

-- the entry leads down from a node with a mark to another
abbrev pub is_fall : HierarchyLists → List Bool → Entry → Bool
is_fall h marks e = has_mark marks e.to && (has_mark marks e.from && is_above h.order e.from e.to)
