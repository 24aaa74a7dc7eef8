-- How many arcs begin below a node, where the arcs are ordered by the node that they begin at.
use Rattle.plan_base.proofs.Common.{◌≡◌, ℕ, ◌+◌, ◌-◌, ◌<◌, ◌≤◌, ◌∙◌, suc, zero, nat_lt, Bool, true, false, List, length, refl, ap, arith, slice_index_or, AllWithin, le_refl, ltb-true, ltb-false}
use Rattle.mode_network.proofs.KeyLemmas.{first_less, first_place, below_stands_before, count_rises, count_most, key_in_range, in_range_of_key}
use Rattle.mode_network.specs.{Arc, IsAscending, arc_cmp, NodeRow, Node, AreNodeRows, node_row, arcs_begun_below, range_from, IsRange}

no_arc : Arc
no_arc = record { from = 0; to = 0; ms = 0 }

-- an arc that stands before another begins at no later node
from_rises : (arcs : List Arc) → IsAscending arc_cmp arcs → (i j : ℕ) (d : Arc) → i ≤ j → j < length arcs
    → (slice_index_or arcs i d).from ≤ (slice_index_or arcs j d).from
from_rises arcs ascend i j d h lt = by_place (nat_lt i j) refl
  where
    by_place : (t : Bool) → nat_lt i j ≡ t → (slice_index_or arcs i d).from ≤ (slice_index_or arcs j d).from
    by_place true below = first_less _ _ _ (ascend i j d (ltb-true _ _ below) lt)
    by_place false above =
        let e : i ≡ j = omega (arith, ltb-false _ _ above) in
        rw e (le_refl _)

-- the first place whose arc leaves v or a later node is the number of arcs that begin below v
pub count_below_is : (arcs : List Arc) (v place : ℕ) → IsAscending arc_cmp arcs → place ≤ length arcs
    → AllWithin (λ arc. arc.from < v) arcs 0 place → ((d : Arc) → place < length arcs → v ≤ (slice_index_or arcs place d).from)
    → place ≡ arcs_begun_below arcs v
count_below_is arcs v place ascend within below next = first_place (λ (arc : Arc). arc.from) arcs (from_rises arcs ascend) v place (stands place within below) next
  where
    stands : (k : ℕ) → k ≤ length arcs → AllWithin (λ arc. arc.from < v) arcs 0 k → k ≤ arcs_begun_below arcs v
    stands zero within below = omega arith
    stands (suc k) within below = below_stands_before (λ (arc : Arc). arc.from) arcs (from_rises arcs ascend) v k no_arc (omega arith) (below k no_arc (omega arith) (omega arith))

pub range_is_range : (arcs : List Arc) (v : ℕ) → IsRange (range_from arcs v) arcs
range_is_range arcs v = (count_rises (λ (arc : Arc). arc.from) arcs v (v + 1) (omega arith), count_most (λ (arc : Arc). arc.from) arcs (v + 1))

-- where the arcs are ordered, those in the range of a node begin there
pub begins_in_range : (arcs : List Arc) → IsAscending arc_cmp arcs → (v k : ℕ) (d : Arc) → (range_from arcs v).0 ≤ k → k < (range_from arcs v).1 → (slice_index_or arcs k d).from ≡ v
begins_in_range arcs ascend = key_in_range (λ (arc : Arc). arc.from) arcs (from_rises arcs ascend)

-- an arc stands in the range of the node that it begins at
pub in_range_of_begin : (arcs : List Arc) → IsAscending arc_cmp arcs → (k : ℕ) (d : Arc) → k < length arcs
    → ((range_from arcs (slice_index_or arcs k d).from).0 ≤ k) × (k < (range_from arcs (slice_index_or arcs k d).from).1)
in_range_of_begin arcs ascend k d lt = in_range_of_key (λ (arc : Arc). arc.from) arcs (from_rises arcs ascend) _ k d lt refl

module _ (nodes : ℕ) (roads : List Node) (arcs links : List Arc) (table : List NodeRow) (are : AreNodeRows nodes roads arcs links table) where
  -- what is read of a node is its row
  row_read : (v : ℕ) → v ≤ nodes → (row : NodeRow) → row ≡ slice_index_or table v row → row ≡ node_row roads arcs links v
  row_read v h row at = at ∙ are.are v row h

  -- and what is read of it and of the next one is a range of the list whose counts the rows have
  pub range_read : (part : NodeRow → ℕ) (list : List Arc) → ((w : ℕ) → part (node_row roads arcs links w) ≡ arcs_begun_below list w) → (v : ℕ) → v < nodes
      → (first end : NodeRow) → first ≡ slice_index_or table v first → end ≡ slice_index_or table (v + 1) end → (part first, part end) ≡ range_from list v
  range_read part list has v h first end at_first at_end =
      ap (λ k. (k, part end)) (ap part (row_read v (omega arith) first at_first) ∙ has v)
      ∙ ap (λ k. (arcs_begun_below list v, k)) (ap part (row_read (v + 1) (omega arith) end at_end) ∙ has (v + 1))
