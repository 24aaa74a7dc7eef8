-- The arcs out of a node in mirrored time, row by row.
use Rattle.plan_base.proofs.Common.{◌≡◌, ℕ, zero, suc, ◌+◌, ◌-◌, ◌<◌, ◌≤◌, ◌&&◌, nat_le, Bool, true, false, cond, List, [], ◌∷◌, ◌++◌, length, take, get_or, Option, Some, None, refl, sym, ap, ◌∙◌, subst, arith, append_assoc, append-nil, slice_index_or, sum_by, option_map, flat_map, range_with_len}
use Rattle.search_laws.specs.{is_open, way_if, open_way, way_at, ways_from, ways_of, Way}
use Rattle.search_laws.proofs.WayLemmas.{ways_more, ways_split}
use Rattle.timetable_arcs.specs.{Instance, TableLists, pattern_trip, last_run, departs}
use Rattle.mode_network.specs.NetworkLists.{NetworkLists}
use Rattle.plain_graph.specs.{PlainArc, Road, Link, Stand, Ride, pattern_call}
use Rattle.latest_departure.specs.{Source, Entry, count_of, plain_arc_of, arcs_into, arc_into, mirror_arc, mirror_meaning, begins, row_entries, source_rows, mirrored, entry_count, inside.mirror_ride_ways, inside.mirror_run_ways, inside.ride_calls, inside.source_ways, BackLists.BackLists}
use Rattle.latest_departure.specs.declared.source.Source.TheVariants as source
use Rattle.latest_departure.proofs.{RowLemmas.arcs_along, RowLemmas.total, RowLemmas.source_at, TurnedLemmas.pieces_more}

-- ---- places of a row
take_all : (k : ℕ) (row : List Entry) → length row ≤ k → take k row ≡ row
take_all zero [] past = refl
take_all zero (entry ∷ row) past = absurd (omega arith)
take_all (suc k) [] past = refl
take_all (suc k) (entry ∷ row) past = ap (λ (xs : List Entry). entry ∷ xs) (take_all k row (omega arith))

-- ---- a source
none_open : (b : Bool) → ◌≡◌ {A = List Way} (cond b [] []) []
none_open true = refl
none_open false = refl

module _ (n : NetworkLists) (t : TableLists) (rows : ℕ → List Source) (deadline v time letters : ℕ) where
  abbrev from : ℕ → ℕ → List Way
  from place k = ways_from (mirror_meaning n t rows deadline) v time letters place k

  abbrev at : ℕ → List Way
  at place = way_at (mirror_meaning n t rows deadline) v time letters place

  abbrev way_by : ℕ → PlainArc → List Way
  way_by place a = open_way letters place (mirror_arc n t v a) (begins t deadline time a)

  at_is : (place : ℕ) (a : PlainArc) → arc_into rows v place ≡ a → at place ≡ way_by place a
  at_is place a is = ap (way_by place) is

  none_from : (k place : ℕ) → ((i : ℕ) → i < k → at (place + i) ≡ []) → from place k ≡ []
  none_from zero place each = refl
  none_from (suc k) place each =
      let here : place + 0 ≡ place = omega arith in
      ap (λ (ws : List Way). ws ++ from (place + 1) k) (ap at (sym here) ∙ each 0 (omega arith))
      ∙ none_from k (place + 1) (λ i lt. let next : place + 1 + i ≡ place + (i + 1) = omega arith in ap at next ∙ each (i + 1) (omega arith))

  -- these arcs stand from the place on
  abbrev AreAt : ℕ → Source → Type 0
  AreAt place s = (i : ℕ) → i < count_of s → arc_into rows v (place + i) ≡ plain_arc_of s i

  one : (place : ℕ) (a : PlainArc) → arc_into rows v (place + 0) ≡ a → way_by place a ≡ from place 1
  one place a is =
      let here : place + 0 ≡ place = omega arith in
      sym (append-nil (at place) ∙ ap at (sym here) ∙ at_is (place + 0) a is ∙ ap (λ j. way_by j a) here)

  module _ (place pattern call : ℕ) (are : AreAt place (source.Alight pattern call)) where
    abbrev letter : Option ℕ
    letter = Some (pattern_trip t pattern).letter

    ride_at : (i : ℕ) → i < call → at (place + i) ≡ way_by (place + i) (Ride (ride_calls pattern call i))
    ride_at i lt = at_is (place + i) (Ride (ride_calls pattern call i)) (are i lt)

    closed : is_open letters letter ≡ false → from place call ≡ []
    closed shut = none_from call place (λ i lt. ride_at i lt ∙ ap (λ (b : Bool). cond b (way_if (place + i) (mirror_arc n t v (Ride (ride_calls pattern call i))) (begins t deadline time (Ride (ride_calls pattern call i)))) []) shut)

    -- without a run there is none
    abbrev by_run : ℕ → Bool → Option Instance → List Way
    by_run i may last =
        open_way letters (place + i) (mirror_arc n t v (Ride (ride_calls pattern call i)))
        (option_map (λ run. deadline - departs t run i) (cond (may && (pattern_call t pattern i).board) last None))

    no_run : (i : ℕ) (boards : Bool) → open_way letters (place + i) (mirror_arc n t v (Ride (ride_calls pattern call i)))
        (option_map (λ run. deadline - departs t run i) (cond boards None None)) ≡ []
    no_run i true = none_open (is_open letters letter)
    no_run i false = none_open (is_open letters letter)

    late : nat_le time deadline ≡ false → from place call ≡ []
    late past = none_from call place (λ i lt. ride_at i lt ∙ ap (λ (b : Bool). by_run i b (last_run t pattern call (deadline - time))) past ∙ none_open (is_open letters letter))

    runless : nat_le time deadline ≡ true → last_run t pattern call (deadline - time) ≡ None → from place call ≡ []
    runless early none =
        none_from call place (λ i lt. ride_at i lt ∙ ap (λ (b : Bool). by_run i b (last_run t pattern call (deadline - time))) early
        ∙ ap (by_run i true) none ∙ no_run i (pattern_call t pattern i).board)

    with_run : (i : ℕ) (run : Instance) (boards : Bool) → cond true (way_if (place + i) (mirror_arc n t v (Ride (ride_calls pattern call i)))
        (option_map (λ run. deadline - departs t run i) (cond boards (Some run) None))) []
        ≡ cond boards (record { place = place + i; arc = mirror_arc n t v (Ride (ride_calls pattern call i)); at = deadline - departs t run i } ∷ []) []
    with_run i run true = refl
    with_run i run false = refl

    run_at : (run : Instance) → nat_le time deadline ≡ true → is_open letters letter ≡ true → last_run t pattern call (deadline - time) ≡ Some run
        → (i : ℕ) → i < call → at (place + i) ≡ mirror_ride_ways n t deadline run (place + i) (ride_calls pattern call i)
    run_at run early opens last i lt =
        ride_at i lt ∙ ap (λ (b : Bool). by_run i b (last_run t pattern call (deadline - time))) early ∙ ap (by_run i true) last
        ∙ ap (λ (b : Bool). cond b (way_if (place + i) (mirror_arc n t v (Ride (ride_calls pattern call i)))
        (option_map (λ run. deadline - departs t run i) (cond (pattern_call t pattern i).board (Some run) None))) []) opens
        ∙ with_run i run (pattern_call t pattern i).board

    run_from : (run : Instance) → ((i : ℕ) → i < call → at (place + i) ≡ mirror_ride_ways n t deadline run (place + i) (ride_calls pattern call i))
        → (k : ℕ) → k ≤ call → flat_map (λ board. mirror_ride_ways n t deadline run (place + board) (ride_calls pattern call board)) (range_with_len 0 k) ≡ from place k
    run_from run each zero within = refl
    run_from run each (suc k) within =
        let more : suc k ≡ k + 1 = omega arith in
        ap (λ j. flat_map (λ (board : ℕ). mirror_ride_ways n t deadline run (place + board) (ride_calls pattern call board)) (range_with_len 0 j)) more
        ∙ pieces_more (λ (board : ℕ). mirror_ride_ways n t deadline run (place + board) (ride_calls pattern call board)) k
        ∙ ap (λ (ws : List Way). ws ++ mirror_ride_ways n t deadline run (place + k) (ride_calls pattern call k)) (run_from run each k (omega arith))
        ∙ ap (λ (ws : List Way). from place k ++ ws) (sym (each k (omega arith)))
        ∙ sym (ways_more (mirror_meaning n t rows deadline) v time letters place k) ∙ ap (from place) (sym more)

    alight_ways : source_ways n t deadline v time letters place (source.Alight pattern call) ≡ from place call
    alight_ways = on_tests (nat_le time deadline) (is_open letters letter) refl refl
      where
        on_last : (last : Option Instance) → last_run t pattern call (deadline - time) ≡ last → nat_le time deadline ≡ true → is_open letters letter ≡ true
            → mirror_run_ways n t deadline place pattern call last ≡ from place call
        on_last None e early opens = sym (runless early e)
        on_last (Some run) e early opens = run_from run (run_at run early opens e) call (omega arith)

        on_tests : (a b : Bool) → nat_le time deadline ≡ a → is_open letters letter ≡ b
            → cond (nat_le time deadline && is_open letters letter) (mirror_run_ways n t deadline place pattern call (last_run t pattern call (deadline - time))) [] ≡ from place call
        on_tests false b e f =
            ap (λ (a : Bool). cond (a && is_open letters letter) (mirror_run_ways n t deadline place pattern call (last_run t pattern call (deadline - time))) []) e ∙ sym (late e)
        on_tests true false e f =
            ap (λ (a : Bool). cond (a && is_open letters letter) (mirror_run_ways n t deadline place pattern call (last_run t pattern call (deadline - time))) []) e
            ∙ ap (λ (b : Bool). cond b (mirror_run_ways n t deadline place pattern call (last_run t pattern call (deadline - time))) []) f ∙ sym (closed f)
        on_tests true true e f =
            ap (λ (a : Bool). cond (a && is_open letters letter) (mirror_run_ways n t deadline place pattern call (last_run t pattern call (deadline - time))) []) e
            ∙ ap (λ (b : Bool). cond b (mirror_run_ways n t deadline place pattern call (last_run t pattern call (deadline - time))) []) f
            ∙ on_last (last_run t pattern call (deadline - time)) refl e f

  source_ways_are : (place : ℕ) (s : Source) → AreAt place s → source_ways n t deadline v time letters place s ≡ from place (count_of s)
  source_ways_are place (source.Road arc) are = one place (Road arc) (are 0 (omega arith))
  source_ways_are place (source.Link link) are = one place (Link link) (are 0 (omega arith))
  source_ways_are place source.Stand are = one place Stand (are 0 (omega arith))
  source_ways_are place (source.Alight pattern call) are = alight_ways place pattern call are

-- ---- a row
module _ (b : BackLists) (deadline v time letters : ℕ) (row : List Entry) (is_row : row ≡ row_entries b.entries b.places v) where
  abbrev g_from : ℕ → ℕ → List Way
  g_from place k = ways_from (mirrored b deadline) v time letters place k

  -- one entry more
  pub entry_pushed : (k place : ℕ) (entry : Entry) (before now next : List Way) → k < length row → entry ≡ get_or row k entry → place ≡ sum_by entry_count (take k row)
      → now ≡ before ++ g_from 0 place → next ≡ now ++ source_ways b.network b.table deadline v time letters place entry.source → next ≡ before ++ g_from 0 (place + entry_count entry)
  entry_pushed k place entry before now next within is so_far first push =
      let here : 0 + place ≡ place = omega arith in
      let are = λ (i : ℕ) (lt : i < count_of entry.source). subst (λ (r : List Entry). slice_index_or (arcs_along r) (place + i) Stand ≡ plain_arc_of entry.source i) is_row
      (ap (λ j. slice_index_or (arcs_along row) (j + i) Stand) so_far ∙ source_at row k entry within is i lt) in
      let own = source_ways_are b.network b.table (source_rows b) deadline v time letters place entry.source are in
      push ∙ ap (λ (ws : List Way). ws ++ source_ways b.network b.table deadline v time letters place entry.source) first
      ∙ append_assoc before (g_from 0 place) (source_ways b.network b.table deadline v time letters place entry.source)
      ∙ ap (λ (ws : List Way). before ++ (g_from 0 place ++ ws)) own
      ∙ ap (λ (ws : List Way). before ++ ws) (sym (ways_split (mirrored b deadline) v time letters 0 place (entry_count entry) ∙ ap (λ j. g_from 0 place ++ g_from j (entry_count entry)) here))

  -- all of them
  pub row_done : (k place : ℕ) (before now : List Way) → length row ≤ k → place ≡ sum_by entry_count (take k row) → now ≡ before ++ g_from 0 place
      → now ≡ before ++ ways_of (mirrored b deadline) v time letters
  row_done k place before now past so_far first =
      let count : place ≡ length (arcs_into (source_rows b) v) =
      so_far ∙ ap (sum_by entry_count) (take_all k row past) ∙ sym (total row) ∙ ap (λ (r : List Entry). length (arcs_along r)) is_row in
      first ∙ ap (λ j. before ++ g_from 0 j) count
