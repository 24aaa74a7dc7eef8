-- The rides that can be taken out of a stop are those of its boards in turn.
use Rattle.plan_base.proofs.Common.{◌≡◌, ℕ, ◌+◌, ◌-◌, ◌<◌, ◌≤◌, ◌^◌, List, [], ◌∷◌, ◌++◌, length, map, drop, Bool, true, false, cond, zero, suc, Some, None, refl, sym, ◌∙◌, ap, append_assoc, append-nil, length-append, arith, All, Option, slice_index, slice_index_or, is_some, flat_map, drop_more, drop_all, All-cons, All-nil, All-weaker, le-ltb}
use Rattle.search_laws.specs.{is_open, open_way, way_at, ways_from, Way}
use Rattle.timetable_arcs.specs.{Call, Instance, Board, Ride as RideCalls, TableLists, AreAlike, trip_at, call_of, pattern_trip, next_run, no_call, rides_at, boards_at, alights, IsTable}
use Rattle.timetable_arcs.proofs.{RideLemmas.ride_to, RideLemmas.no_board, RideLemmas.rides_on, RideLemmas.AreCounted, RideLemmas.from_rides, RideLemmas.from_counted, RideLemmas.IsBoardOf, RideLemmas.boards_fit, TableLemmas.rides_few}
use Rattle.mode_network.specs.{NetworkLists.NetworkLists, letter_at, stop_at}
use Rattle.plain_graph.specs.{PlainArc, Ride, plain_arc, plain_meaning, graph_arc, arrival, count_from, rides_of, rides_from_stop, no_ride, pattern_call, call_way, call_ways, day_ways, ride_way, ride_ways, run_ways, board_ways, boards_ways}

module _ (n : NetworkLists) (t : TableLists) (time letters v : ℕ) where
  -- a ride as the arc at a place, if it can be taken
  abbrev ride_at : ℕ → RideCalls → List Way
  ride_at place ride = open_way letters place (graph_arc n t v (Ride ride)) (arrival t time (Ride ride))

  abbrev rides_ways : ℕ → List RideCalls → List Way
  rides_ways place [] = []
  rides_ways place (ride ∷ rides) = ride_at place ride ++ rides_ways (place + 1) rides

  rides_append : (place : ℕ) (xs ys : List RideCalls) → rides_ways place (xs ++ ys) ≡ rides_ways place xs ++ rides_ways (place + length xs) ys
  rides_append place [] ys = let same : place ≡ place + 0 = omega arith in ap (λ (k : ℕ). rides_ways k ys) same
  rides_append place (x ∷ xs) ys =
      let same : place + 1 + length xs ≡ place + suc (length xs) = omega arith in
      ap (λ (zs : List Way). ride_at place x ++ zs) (rides_append (place + 1) xs ys ∙ ap (λ (k : ℕ). rides_ways (place + 1) xs ++ rides_ways k ys) same)
      ∙ sym (append_assoc (ride_at place x) (rides_ways (place + 1) xs) (rides_ways (place + suc (length xs)) ys))

  -- the rides of a pattern whose letter is not in the set
  closed_rides : (p c place : ℕ) (places : List ℕ) → is_open letters (Some (pattern_trip t p).letter) ≡ false → rides_ways place (map (ride_to p c) places) ≡ []
  closed_rides p c place [] h = refl
  closed_rides p c place (a ∷ places) h = rw h (closed_rides p c (place + 1) places h)

  -- those of a pattern that has no run any more
  no_rides : (p c place : ℕ) (places : List ℕ) → is_open letters (Some (pattern_trip t p).letter) ≡ true → next_run t p c time ≡ None → rides_ways place (map (ride_to p c) places) ≡ []
  no_rides p c place [] h none = refl
  no_rides p c place (a ∷ places) h none = rw (h, none) (no_rides p c (place + 1) places h none)

  run_rides : (p c place : ℕ) (run : Instance) (places : List ℕ) → is_open letters (Some (pattern_trip t p).letter) ≡ true → next_run t p c time ≡ Some run
      → rides_ways place (map (ride_to p c) places) ≡ ride_ways n t p run place places
  run_rides p c place run [] h some = refl
  run_rides p c place run (a ∷ places) h some = rw (h, some) (ap (λ (ws : List Way). ride_way n t p run place a ∷ ws) (run_rides p c (place + 1) run places h some))

  board_is : (place : ℕ) (board : Board) → rides_ways place (rides_on t board) ≡ board_ways n t time letters place board
  board_is place board = by_letter (is_open letters (Some (pattern_trip t board.pattern).letter)) refl (next_run t board.pattern board.call time) refl
    where
      places : List ℕ
      places = alights (board.call + 1) (drop (board.call + 1) (pattern_trip t board.pattern).calls)

      by_letter : (b : Bool) → is_open letters (Some (pattern_trip t board.pattern).letter) ≡ b → (o : Option Instance) → next_run t board.pattern board.call time ≡ o
          → rides_ways place (map (ride_to board.pattern board.call) places) ≡ run_ways n t place board (cond b o None)
      by_letter false h o e = closed_rides board.pattern board.call place places h
      by_letter true h None e = no_rides board.pattern board.call place places h e
      by_letter true h (Some run) e = run_rides board.pattern board.call place run places h e

  boards_are : (first k : ℕ) (boards : List Board) → AreCounted t k boards → rides_ways (first + k) (flat_map (rides_on t) boards) ≡ boards_ways n t time letters first boards
  boards_are first k [] counted = refl
  boards_are first k (b ∷ boards) counted =
      let here : first + k ≡ first + b.before = omega (arith, counted.0) in
      let next : first + k + length (rides_on t b) ≡ first + (k + length (rides_on t b)) = omega arith in
      rides_append (first + k) (rides_on t b) (flat_map (rides_on t) boards)
      ∙ ap (λ (ws : List Way). ws ++ rides_ways (first + k + length (rides_on t b)) (flat_map (rides_on t) boards)) (board_is (first + k) b ∙ ap (λ (k : ℕ). board_ways n t time letters k b) here)
      ∙ ap (λ (ws : List Way). board_ways n t time letters (first + b.before) b ++ ws)
      (ap (λ (j : ℕ). rides_ways j (flat_map (rides_on t) boards)) next ∙ boards_are first (k + length (rides_on t b)) boards counted.1)

  -- the places of a node from one on, where they are rides
  ways_are_rides : (place : ℕ) (rides : List RideCalls) → ((j : ℕ) → j < length rides → plain_arc n t v (place + j) ≡ Ride (slice_index_or rides j no_ride))
      → ways_from (plain_meaning n t) v time letters place (length rides) ≡ rides_ways place rides
  ways_are_rides place [] are = refl
  ways_are_rides place (ride ∷ rides) are =
      let same : place ≡ place + 0 = omega arith in
      let first : plain_arc n t v place ≡ Ride ride = ap (plain_arc n t v) same ∙ are 0 (omega arith) in
      let way : way_at (plain_meaning n t) v time letters place ≡ ride_at place ride = ap (λ (a : PlainArc). open_way letters place (graph_arc n t v a) (arrival t time a)) first in
      ap (λ (ws : List Way). ws ++ ways_from (plain_meaning n t) v time letters (place + 1) (length rides)) way
      ∙ ap (λ (ws : List Way). ride_at place ride ++ ws)
      (ways_are_rides (place + 1) rides (λ j lt. let next : place + 1 + j ≡ place + suc j = omega arith in ap (plain_arc n t v) next ∙ are (suc j) (omega (arith, lt))))

  module _ (stop : ℕ) (found : stop_at n v ≡ Some stop) (no_road : letter_at n.roads v ≡ None) where
    pub at_ride : (j : ℕ) → plain_arc n t v (count_from n.arcs v + count_from n.links v + j) ≡ Ride (slice_index_or (rides_at t stop) j no_ride)
    at_ride j =
        let i = count_from n.arcs v + count_from n.links v + j in
        let rides : rides_of n t v ≡ rides_at t stop = ap (rides_from_stop t) found in
        let none : is_some (letter_at n.roads v) ≡ false = ap is_some no_road in
        let past_roads = le-ltb i (count_from n.arcs v) (omega arith) in
        let past_links = le-ltb (i - count_from n.arcs v) (count_from n.links v) (omega arith) in
        let back : i - count_from n.arcs v - count_from n.links v ≡ j = omega arith in
        rw (past_roads, past_links, none, back, rides) refl

    pub stop_ways : ways_from (plain_meaning n t) v time letters (count_from n.arcs v + count_from n.links v) (length (rides_at t stop))
        ≡ boards_ways n t time letters (count_from n.arcs v + count_from n.links v) (boards_at t stop)
    stop_ways =
        let first = count_from n.arcs v + count_from n.links v in
        let same : first ≡ first + 0 = omega arith in
        ways_are_rides first (rides_at t stop) (λ j lt. at_ride j)
        ∙ ap (rides_ways first) (sym (from_rides t stop 0 0 t.patterns))
        ∙ ap (λ (k : ℕ). rides_ways k (flat_map (rides_on t) (boards_at t stop))) same
        ∙ boards_are first 0 (boards_at t stop) (from_counted t stop 0 0 t.patterns)

-- the rides of a run are read from its own calls
module _ (n : NetworkLists) (t : TableLists) (p : ℕ) (run : Instance) (alike : AreAlike (pattern_trip t p) (trip_at t run.trip)) where
  abbrev base : ℕ
  base = slice_index t.bases run.day

  abbrev letter : ℕ
  letter = (pattern_trip t p).letter

  abbrev calls : List Call
  calls = (trip_at t run.trip).calls

  way_is : (place k : ℕ) → k < length (pattern_trip t p).calls → ride_way n t p run place k ≡ call_way n base letter place (call_of t run k)
  way_is place k lt = let same = alike.each k no_call lt in rw same.stop refl

  pub rides_are_calls : (m k place : ℕ) → k + m ≡ length (pattern_trip t p).calls
      → ride_ways n t p run place (alights k (drop k (pattern_trip t p).calls)) ≡ call_ways n base letter place (drop k calls)
  rides_are_calls zero k place all = rw (drop_all k (pattern_trip t p).calls (omega (arith, all)), drop_all k calls (omega (arith, all, alike.calls))) refl
  rides_are_calls (suc m) k place all =
      rw (drop_more (pattern_trip t p).calls k no_call (omega (arith, all)), drop_more calls k no_call (omega (arith, all, alike.calls)))
      (by_call (pattern_call t p k).alight refl (λ place. rides_are_calls m (k + 1) place (omega (arith, all))))
    where
      rest : List ℕ
      rest = alights (k + 1) (drop (k + 1) (pattern_trip t p).calls)

      within : k < length (pattern_trip t p).calls
      within = omega (arith, all)

      by_call : (b : Bool) → (pattern_call t p k).alight ≡ b → ((place : ℕ) → ride_ways n t p run place rest ≡ call_ways n base letter place (drop (k + 1) calls))
          → ride_ways n t p run place (cond (pattern_call t p k).alight (k ∷ rest) rest)
          ≡ cond (call_of t run k).alight (call_way n base letter place (call_of t run k) ∷ call_ways n base letter (place + 1) (drop (k + 1) calls)) (call_ways n base letter place (drop (k + 1) calls))
      by_call true e next =
          let same : (call_of t run k).alight ≡ true = sym (alike.each k no_call within).alight ∙ e in
          rw (e, same) (ap (λ (way : Way). way ∷ ride_ways n t p run (place + 1) rest) (way_is place k within) ∙ ap (λ (ws : List Way). call_way n base letter place (call_of t run k) ∷ ws) (next (place + 1)))
      by_call false e next =
          let same : (call_of t run k).alight ≡ false = sym (alike.each k no_call within).alight ∙ e in
          rw (e, same) (next place)

-- what a loop over calls has pushed at its end
pub rides_pushed : (n : NetworkLists) (base letter : ℕ) (calls : List Call) (place later : ℕ) (now whole : List Way) → length calls ≤ later
    → now ++ call_ways n base letter place (drop later calls) ≡ whole → now ≡ whole
rides_pushed n base letter calls place later now whole past is =
    sym (append-nil now) ∙ ap (λ (ws : List Way). now ++ ws) (sym (ap (call_ways n base letter place) (drop_all later calls past))) ∙ is

-- a run of the pattern of a board has the rides to its own calls
pub run_is : (n : NetworkLists) (t : TableLists) (board : Board) (run : Instance) → AreAlike (pattern_trip t board.pattern) (trip_at t run.trip) → (first : ℕ)
    → board.call < length (pattern_trip t board.pattern).calls → run_ways n t first board (Some run) ≡ day_ways n t board run.day first (trip_at t run.trip).calls
run_is n t board run alike first within =
    rides_are_calls n t board.pattern run alike (length (pattern_trip t board.pattern).calls - (board.call + 1)) (board.call + 1) first (omega (arith, within))

-- no board has more rides before it than there are
module _ (t : TableLists) where
  counted_few : (k : ℕ) (boards : List Board) → AreCounted t k boards → All (λ (board : Board). board.before ≤ k + length (flat_map (rides_on t) boards)) boards
  counted_few k [] counted = All-nil (λ (board : Board). board.before ≤ k + 0)
  counted_few k (b ∷ boards) counted =
      let sums = length-append (rides_on t b) (flat_map (rides_on t) boards) in
      All-cons (λ (board : Board). board.before ≤ k + length (flat_map (rides_on t) (b ∷ boards))) b boards (omega (arith, counted.0))
      (All-weaker (λ (board : Board). board.before ≤ k + length (rides_on t b) + length (flat_map (rides_on t) boards)) (λ (board : Board). board.before ≤ k + length (flat_map (rides_on t) (b ∷ boards)))
      (λ board le. omega (arith, le, sums)) boards (counted_few (k + length (rides_on t b)) boards counted.1))

  pub before_few : (stop : ℕ) → All (λ (board : Board). board.before ≤ length (rides_at t stop)) (boards_at t stop)
  before_few stop =
      let all = ap length (from_rides t stop 0 0 t.patterns) in
      All-weaker (λ (board : Board). board.before ≤ 0 + length (flat_map (rides_on t) (boards_at t stop))) (λ (board : Board). board.before ≤ length (rides_at t stop))
      (λ board le. omega (arith, le, all)) (boards_at t stop) (counted_few 0 (boards_at t stop) (from_counted t stop 0 0 t.patterns))

-- a board of a stop is a call of a pattern, with few rides before it
pub record IsKnownBoard (t : TableLists) (board : Board) : Type 0 where
  pub is : IsBoardOf t board
  pub few : board.before < 2 ^ 63

pub board_known : (t : TableLists) → IsTable t → (stop : ℕ) (boards : List Board) → boards ≡ boards_at t stop → (k : ℕ) → k < length boards → IsKnownBoard t (slice_index_or boards k no_board)
board_known t table stop boards are k lt =
    let within : k < length (boards_at t stop) = omega (arith, lt, ap length are) in
    let most = before_few t stop k no_board within in
    let few = rides_few t table stop in
    rw are (record { is = boards_fit t stop k no_board within; few = omega (arith, most, few) })
