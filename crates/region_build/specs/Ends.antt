-- The ends of a map's road arcs: OSM nodes, each in the layer of a mode.
use Rattle.std.specs.Prelude.{◌≡◌, ℕ, ℤ, List, [], ◌∷◌, ◌++◌, Bool, ◌&&◌, nat_eq, Option, if◌then◌else◌, position, flat_map, IsPermutation, IsSorted}
use Rattle.std.specs.List.{list_any}
use Rattle.std.specs.Ordering.{int_cmp, int_eq, nat_cmp, ordering_then}
use Rattle.std.specs.declared.cmp.Ordering.{Ordering}
use Rattle.plan_base.specs.{number_of_mode, Mode}
use Rattle.road_profile.specs.{RoadRow}

-- the id of a node, and the mode
abbrev pub End : Type 0
End = ℤ × Mode

abbrev pub ends_at : RoadRow → List End
ends_at row = (row.from, row.mode) ∷ (row.to, row.mode) ∷ []

-- by ids, and then by modes
abbrev pub end_cmp : End → End → Ordering
end_cmp a b = ordering_then (int_cmp a.0 b.0) (nat_cmp (number_of_mode a.1) (number_of_mode b.1))

-- what an end is found by: its id and the number of its mode
abbrev pub key_of_end : End → ℤ × ℕ
key_of_end end = (end.0, number_of_mode end.1)

abbrev pub is_same_end : End → End → Bool
is_same_end a b = int_eq a.0 b.0 && nat_eq (number_of_mode a.1) (number_of_mode b.1)

-- those seen, and each other end once, in the order of first sight
abbrev pub once_behind : List End → List End → List End
once_behind seen [] = seen
once_behind seen (end ∷ ends) = once_behind (if list_any (is_same_end end) seen then seen else seen ++ end ∷ []) ends

-- the ends of all arcs in their order, each once
pub record AreEnds (rows : List RoadRow) (ends : List End) : Type 0 where
  pub sorted : List End
  pub same : IsPermutation (flat_map ends_at rows) sorted
  pub ascend : IsSorted end_cmp sorted
  pub once : ends ≡ once_behind [] sorted

-- the number of a road node is the place of its end
unfoldable pub number_of_end : List End → End → Option ℕ
number_of_end ends end = position (is_same_end end) ends
