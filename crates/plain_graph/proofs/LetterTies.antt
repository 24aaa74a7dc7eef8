-- The rides from one board have one letter.
use Rattle.plan_base.proofs.Common.{◌≡◌, ℕ, ◌-◌, ◌<◌, ◌≤◌, List, length, get_or, nat_le, true, false, inl, inr, sym, ◌∙◌, ap, arith, slice_index_or, IsPartitionedBy, IsPartitionPoint, leb-true, le-leb, cases_lt, nat_tests, IsPartitionedBy-leb, slice_get-get_or, slice_get_past, get_or_from_slice_get}
use Rattle.timetable_arcs.specs.{Board, Ride as RideCalls, TableLists, rides_at, boards_at, end_at, rides_end}
use Rattle.timetable_arcs.proofs.RideLemmas.{no_board, boards_rise, ride_found}
use Rattle.plain_graph.specs.{no_ride, IsPastBoard}
use Rattle.plain_graph.proofs.BoardTies.{before_few}

-- a board is found for the ride i among those of a stop
module _ (t : TableLists) (stop i place : ℕ) (bounded : place ≤ length (boards_at t stop))
    (point : IsPartitionPoint (λ (b : Board). nat_le b.before i ≡ true) (λ (b : Board). nat_le b.before i ≡ false) (boards_at t stop) place) where
  abbrev end : ℕ
  end = rides_end (boards_at t stop) (length (rides_at t stop)) place

  end_is : (d : Board) → place < length (boards_at t stop) → end ≡ (get_or (boards_at t stop) place d).before
  end_is d lt = ap (end_at (length (rides_at t stop))) (slice_get-get_or (boards_at t stop) place d lt)

  end_within : end ≤ length (rides_at t stop)
  end_within = elim (cases_lt place (length (boards_at t stop))) [
    | inl lt ↦ omega (arith, end_is no_board lt, before_few t stop place no_board lt)
    | inr ge ↦ (let all : end ≡ length (rides_at t stop) = ap (end_at (length (rides_at t stop))) (slice_get_past (boards_at t stop) place ge) in omega (arith, all))
  ]

  -- the same board is found for the later ones before its end
  point_later : (k : ℕ) → i ≤ k → k < end
      → IsPartitionPoint (λ (b : Board). nat_le b.before k ≡ true) (λ (b : Board). nat_le b.before k ≡ false) (boards_at t stop) place
  point_later k from to = (
    λ j d le lt. le-leb (get_or (boards_at t stop) j d).before k (omega (arith, leb-true (get_or (boards_at t stop) j d).before i (point.0 j d le lt), from)),
    λ j d le lt. (let rise = boards_rise t stop place j d le lt in let here = end_is d (omega (arith, le, lt)) in
        let later : k < (get_or (boards_at t stop) j d).before = omega (arith, rise, here, to) in grind (arith, nat_tests, later)),
  )

  pattern_at : (k : ℕ) → i ≤ k → k < end → (slice_index_or (rides_at t stop) k no_ride).pattern ≡ (get_or (boards_at t stop) (place - 1) no_board).pattern
  pattern_at k from to =
      let found = ride_found t stop k place (omega (arith, end_within, to)) bounded (point_later k from to) in
      ap (λ (r : RideCalls). r.pattern) (get_or_from_slice_get (rides_at t stop) k _ no_ride found.is)

  pub past_board : i < length (rides_at t stop) → IsPastBoard t stop i end
  past_board inside =
      let later : i < end = (ride_found t stop i place inside bounded point).not_past in
      record { later = later; within = end_within; same = λ k from to. pattern_at k from to ∙ sym (pattern_at i (omega arith) later) }

-- so it is as the search by halves among these boards answers
pub past_found : (t : TableLists) (stop i place past : ℕ) (boards : List Board) → boards ≡ boards_at t stop → i < length (rides_at t stop) → place ≤ length boards
    → (IsPartitionedBy (λ (b : Board). nat_le b.before i) boards → IsPartitionPoint (λ (b : Board). nat_le b.before i ≡ true) (λ (b : Board). nat_le b.before i ≡ false) boards place)
    → past ≡ rides_end boards (length (rides_at t stop)) place → IsPastBoard t stop i past
past_found t stop i place past boards are inside bounded search_ends is =
    let ends = rw are at search_ends in
    rw (is, are) (past_board t stop i place (rw are at bounded) (ends (IsPartitionedBy-leb (λ (b : Board). b.before) (boards_at t stop) i (boards_rise t stop))) inside)
