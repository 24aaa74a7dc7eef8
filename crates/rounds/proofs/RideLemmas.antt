-- Rides of a network, and what a pass along a pattern tells of them.
use Rattle.plan_base.proofs.Common.{◌≡◌, ◌≢◌, ◌∙◌, ℕ, ◌+◌, ◌<◌, ◌≤◌, inl, inr, Bool, true, false, ◌||◌, nat_lt, List, [], length, map, Option, Some, None, refl, sym, ap, subst, subst₂, arith, All, Vec, Global, slice_get, slice_index, slice_index_or, slice_get-get_or, get_or_from_slice_get, slice_get_within, get_or-map, get_or_past, same_Some, none-some, or_parts, below_more, cases_eq, cases_lt, slice_get_cases, set, length-set, lt-ltb, ltb-true, if◌then◌else◌}
use Rattle.search_laws.specs.{IsLetter, HasMove, Follows}
use Rattle.timetable_arcs.specs.{Call, Instance, TripLists, TableLists, IsTable, IsRunOf, IsRide, IsIn, IsAlike, AreAlike, pattern_trip, trip_at, call_of, no_call, no_trip, arrives, departs, arrival_of, departure_of}
use Rattle.timetable_arcs.proofs.{RunLemmas.within_patterns, TableLemmas.trip_of_pattern}
use Rattle.plain_graph.specs.{transit_letter}
use Rattle.mode_network.specs.{NetworkLists.NetworkLists, IsNetwork, IsTimetableOf, stop_node, Ride, IsStep}
use Rattle.ride_passes.specs.{CanBeIn, IsFirstArrival, IsArrivalAt, AreArrivalsAlong}
use Rattle.hierarchy.specs.{IsHierarchy}
use Rattle.phase_graph.specs.{cross, phase_node, IsPhaseGraph, InUseGraph.meaning_in_use}
use Rattle.sweeps.specs.{time_at}
use Rattle.rounds.specs.{AreRounds, Line, IsLine, AreLines}
use Rattle.rounds.specs.inside.{AskedMeaning, Reaches, row_of, cell, never, HaveShape, AreLowered, AreCrossingsReached, AreCrossedOn, crossing_node, IsCrossedBy, WayReaches, WayIsCrossed, IsLineOf, IsRideAlong, IsCaught, IsRiddenAlong, AreRidden, AreRiding, arrival_way, time_after}
use Rattle.rounds.proofs.{ArcLemmas.phases_of, MoveLemmas.reached_on, RowLemmas.row-set_same, RowLemmas.row-set_other, VisitLemmas.Rows, VisitLemmas.IsAny, VisitLemmas.crossed_stays, VisitLemmas.way_stays}

-- ---- times after a departure

after_some : (dep delay : ℕ) → delay < never → time_after dep delay ≡ Some (dep + delay)
after_some dep delay lt = rw (lt-ltb delay never lt) refl

some_after : (dep delay at : ℕ) → time_after dep delay ≡ Some at → (delay < never) × (at ≡ dep + delay)
some_after dep delay at e = on_test (nat_lt delay never) refl e
  where
    on_test : (b : Bool) → nat_lt delay never ≡ b → (if b then Some (dep + delay) else None) ≡ Some at → (delay < never) × (at ≡ dep + delay)
    on_test true lt e = (ltb-true delay never lt, sym (same_Some (dep + delay) at e))
    on_test false lt e = absurd (none-some at e)

-- where there is an arrival there is a call
pub some_within : (arrivals : List (Option ℕ)) (k at : ℕ) → slice_index_or arrivals k None ≡ Some at → k < length arrivals
some_within arrivals k at e = elim (cases_lt k (length arrivals)) [
  | inl lt ↦ lt
  | inr past ↦ absurd (none-some at (sym (get_or_past arrivals k None past) ∙ e))
]

-- ---- rides as steps

-- a call of a pattern
abbrev call_at : TableLists → ℕ → ℕ → Call
call_at t p k = slice_index_or (pattern_trip t p).calls k no_call

-- a run of a pattern leads from v, where it departs at a time or later, to w at u, with this letter
pub record IsRideBy (n : NetworkLists) (t : TableLists) (p : ℕ) (run : Instance) (board alight v time w u : ℕ) (letter : Option ℕ) : Type 0 where
  pub along : IsRideAlong t p run board alight
  pub from : v ≡ stop_node n (call_at t p board).stop
  pub in_time : time ≤ departs t run board
  pub to : w ≡ stop_node n (call_at t p alight).stop
  pub at : u ≡ arrives t run alight
  pub is_letter : letter ≡ Some (pattern_trip t p).letter

-- its letter is one
pub letter_fits : (t : TableLists) → IsTable t → (p : ℕ) → p < length t.patterns → IsLetter (pattern_trip t p).letter
letter_fits t table p lt = transit_letter (length t.bases) t.stops (pattern_trip t p) (trip_of_pattern t table p lt)

module _ (n : NetworkLists) (t : TableLists) (table : IsTable t) (of : IsTimetableOf n t) (v time w u : ℕ) (letter : Option ℕ) where
  -- such a ride is a step of the network
  pub ride_is_step : (p : ℕ) (run : Instance) (board alight : ℕ) → IsRideBy n t p run board alight v time w u letter → IsStep n v time (Ride run.trip run.day board alight) w u letter
  ride_is_step p run board alight is =
      let along = is.along in
      let later = along.later in
      let within = along.within in
      let alike = table.patterns.alike p run along.is_in in
      let on = alike.each board no_call (omega (arith, later, within)) in
      let off = alike.each alight no_call within in
      let bases = of.bases in (
        trip_at t run.trip,
        call_of t run board,
        call_of t run alight,
        record {
          run = subst (λ trips. IsRunOf trips run.trip run.day (trip_at t run.trip)) of.trips (table.patterns.are_runs p run along.is_in);
          on_is = slice_get-get_or (trip_at t run.trip).calls board no_call (omega (arith, later, within, alike.calls));
          off_is = slice_get-get_or (trip_at t run.trip).calls alight no_call (omega (arith, within, alike.calls));
          later = later;
          boards = sym on.board ∙ along.may_board;
          alights = sym off.alight ∙ along.may_alight;
        },
        is.from ∙ ap (stop_node n) on.stop,
        subst (λ bases. time ≤ departure_of bases run.day (call_of t run board)) bases is.in_time,
        is.to ∙ ap (stop_node n) off.stop,
        is.at ∙ ap (λ bases. arrival_of bases run.day (call_of t run alight)) bases,
        is.is_letter ∙ ap Some alike.letter,
      )

  -- and such a step is a ride along some pattern
  pub step_is_ride : (trip day board alight : ℕ) → IsStep n v time (Ride trip day board alight) w u letter → (p : ℕ) × IsRideBy n t p (record { trip = trip; day = day }) board alight v time w u letter
  step_is_ride trip day board alight (held, on, off, rides, from, in_time, to, at, read) =
      let run : Instance = record { trip = trip; day = day } in
      let is_run : IsRunOf t.trips trip day held = subst (λ trips. IsRunOf trips trip day held) (sym of.trips) rides.run in
      let sorted : (p : ℕ) × IsIn t p run = table.patterns.each run held is_run in
      let p = sorted.0 in
      let alike : AreAlike (pattern_trip t p) (trip_at t trip) = table.patterns.alike p run sorted.1 in
      let held_is : trip_at t trip ≡ held = get_or_from_slice_get t.trips trip held no_trip is_run.is in
      let on_is : call_of t run board ≡ on = ap (λ (x : TripLists). slice_index_or x.calls board no_call) held_is ∙ get_or_from_slice_get held.calls board on no_call rides.on_is in
      let off_is : call_of t run alight ≡ off = ap (λ (x : TripLists). slice_index_or x.calls alight no_call) held_is ∙ get_or_from_slice_get held.calls alight off no_call rides.off_is in
      let within : alight < length (pattern_trip t p).calls =
      omega (arith, slice_get_within held.calls alight off rides.off_is, ap (λ (x : TripLists). length x.calls) held_is, alike.calls) in
      let boards : IsAlike (call_at t p board) on = subst (IsAlike (call_at t p board)) on_is (alike.each board no_call (omega (arith, within, rides.later))) in
      let ends : IsAlike (call_at t p alight) off = subst (IsAlike (call_at t p alight)) off_is (alike.each alight no_call within) in (
        p,
        record {
          along = record { is_in = sorted.1; later = rides.later; within = within; may_board = boards.board ∙ rides.boards; may_alight = ends.alight ∙ rides.alights };
          from = from ∙ ap (stop_node n) (sym boards.stop);
          in_time = rw (of.bases, on_is) in_time;
          to = to ∙ ap (stop_node n) (sym ends.stop);
          at = rw (of.bases, off_is) at;
          is_letter = read ∙ ap Some (sym (alike.letter ∙ ap (λ (x : TripLists). x.letter) held_is));
        },
      )

-- ---- what was ridden

module _ (a : AskedMeaning) where
  abbrev t : TableLists
  t = a.rounds.timetable.now

  abbrev crossings : List ℕ
  crossings = a.rounds.crossings.items

  -- what was ridden stays so where delays are lowered
  module _ (P : ℕ → ℕ → ℕ → Type 0) (old new : Rows) (lowered : AreLowered P old new) where
    pub along_stays : (q p : ℕ) (line delays : List ℕ) → IsRiddenAlong a old q p line delays → IsRiddenAlong a new q p line delays
    along_stays q p line delays ridden run board alight r ride caught move =
        crossed_stays a P old new lowered (crossing_node a (slice_index line alight)) r (arrives t run alight) (ridden run board alight r ride caught move)

    pub ridden_stays : (rides : Rows) → AreRidden a old rides → AreRidden a new rides
    ridden_stays rides ridden q p line state is = along_stays q p line.crossings.items (row_of rides q) (ridden q p line state is)

    pub riding_stays : (rides : Rows) → AreCrossingsReached a new → AreRiding a old rides → AreRiding a new rides
    riding_stays rides reached was = record { reached = reached; shape = was.shape; ridden = ridden_stays rides was.ridden }

  module _ (rows : Rows) (q p : ℕ) (line delays : List ℕ) where
    -- where no delay is shorter than before, nothing more is caught
    pub none_sooner : (before : List ℕ) → ((board r : ℕ) → HasMove a.labels q (pattern_trip t p).letter r → board < length (pattern_trip t p).calls → (call_at t p board).board ≡ true
        → time_at before (slice_index line board) ≤ time_at delays (slice_index line board)) → IsRiddenAlong a rows q p line before → IsRiddenAlong a rows q p line delays
    none_sooner before less ridden run board alight r ride (some, by) move =
        let le = less board r move (omega (arith, ride.later, ride.within)) ride.may_board in
        ridden run board alight r ride (omega (arith, some, le), omega (arith, by, le)) move

    -- ---- one pass

    module _ (each : length line ≡ length (pattern_trip t p).calls) (reached arrivals : List (Option ℕ)) (is : reached ≡ map (λ j. time_after a.dep (time_at delays j)) line) (are : AreArrivalsAlong t p reached arrivals) where
      -- what is told of the call where one boards
      told : (k : ℕ) → k < length line → slice_index_or reached k None ≡ time_after a.dep (time_at delays (slice_index line k))
      told k lt = ap (λ (xs : List (Option ℕ)). slice_index_or xs k None) is ∙ get_or-map (λ j. time_after a.dep (time_at delays j)) line k 0 None lt

      -- where all arrivals are taken, all rides are
      pub passed : ((k at : ℕ) → slice_index_or arrivals k None ≡ Some at → WayIsCrossed a rows q (arrival_way a (pattern_trip t p).letter (slice_index line k) at)) → IsRiddenAlong a rows q p line delays
      passed taken run board alight r ride (some, by) move =
          by_arrival (slice_index_or arrivals alight None) refl (are.are alight (omega (arith, ride.within, are.each)))
        where
          since : ℕ
          since = a.dep + time_at delays (slice_index line board)

          there : slice_index_or reached board None ≡ Some since
          there = told board (omega (arith, ride.later, ride.within, each)) ∙ after_some a.dep (time_at delays (slice_index line board)) some

          can : CanBeIn t p reached alight run
          can = (board, ride.later, record { is_in = ride.is_in; may_board = ride.may_board; since = since; there = there; in_time = by })

          by_arrival : (o : Option ℕ) → slice_index_or arrivals alight None ≡ o → IsArrivalAt t p reached alight o → IsCrossedBy a rows (crossing_node a (slice_index line alight)) r (arrives t run alight)
          by_arrival None e none = absurd (none ride.may_alight run can)
          by_arrival (Some at) e found =
              let there = taken alight at e r move in
              (there.0, there.1, there.2, there.3, omega (arith, there.4, found.first run can))

      -- and each of them is reached
      module _ (rounds : AreRounds a.rounds) (network : IsNetwork a.rounds.network.now) (rules : IsHierarchy a.rounds.hierarchy.now) (line_is : IsLine a.rounds.network.now crossings (pattern_trip t p).calls line)
          (start : (j : ℕ) → j < length crossings → time_at delays j < never → Reaches a (crossing_node a j) q (a.dep + time_at delays j)) where
        first_reaches : (k at : ℕ) → k < length (pattern_trip t p).calls → IsFirstArrival t p reached k at → WayReaches a q (arrival_way a (pattern_trip t p).letter (slice_index line k) at)
        first_reaches k at lt found r move =
            let n = a.rounds.network.now in
            let letter = Some (pattern_trip t p).letter in
            let run = found.run in
            let (board, before, boarded) = found.can_be_in in
            let inside : board < length line = omega (arith, before, lt, each) in
            let j = slice_index line board in
            let v = slice_index crossings j in
            let w = slice_index crossings (slice_index line k) in
            let after = some_after a.dep (time_at delays j) boarded.since (sym (told board inside) ∙ boarded.there) in
            let low : j < length crossings = line_is.within board 0 inside in
            let by : IsRideBy n t p run board k v boarded.since w at letter = record {
              along = record { is_in = boarded.is_in; later = before; within = lt; may_board = boarded.may_board; may_alight = found.may_alight };
              from = line_is.are board (omega (arith, before, lt));
              in_time = boarded.in_time;
              to = line_is.are k lt;
              at = found.is;
              is_letter = refl;
            } in
            reached_on n a.rounds.hierarchy.now [] (meaning_in_use a.rounds.graph) (phases_of a.rounds rounds network rules) a.labels a.starts a.dep (cross (Ride run.trip run.day board k)) v false boarded.since q w false at r letter
            (subst (λ s. Reaches a (crossing_node a j) q s) (sym after.1) (start j low after.0))
            (refl, rounds.crossings j 0 low, tt, ride_is_step n t rounds.table rounds.timetable_of v boarded.since w at letter p run board k by, refl) move

        pub arrival_reaches : (k at : ℕ) → slice_index_or arrivals k None ≡ Some at → WayReaches a q (arrival_way a (pattern_trip t p).letter (slice_index line k) at)
        arrival_reaches k at e =
            let lt = some_within arrivals k at e in
            first_reaches k at (omega (arith, lt, are.each)) (subst (IsArrivalAt t p reached k) e (are.are k lt))

  -- one arrival more
  pub arrival_more : (old new : Rows) (q letter k : ℕ) (line : List ℕ) (arrivals : List (Option ℕ)) → AreLowered IsAny old new
      → ((j at : ℕ) → j < k → slice_index_or arrivals j None ≡ Some at → WayIsCrossed a old q (arrival_way a letter (slice_index line j) at))
      → ((at : ℕ) → slice_index_or arrivals k None ≡ Some at → WayIsCrossed a new q (arrival_way a letter (slice_index line k) at))
      → (j at : ℕ) → j < k + 1 → slice_index_or arrivals j None ≡ Some at → WayIsCrossed a new q (arrival_way a letter (slice_index line j) at)
  arrival_more old new q letter k line arrivals lowered before here j at lt =
      below_more (λ j. (at : ℕ) → slice_index_or arrivals j None ≡ Some at → WayIsCrossed a new q (arrival_way a letter (slice_index line j) at)) k
      (λ j lt at e. way_stays a IsAny old new lowered q (arrival_way a letter (slice_index line j) at) (before j at lt e)) here j lt at

  -- ---- all patterns

  -- one pattern more
  pub pattern_more : (old new : Rows) (q k : ℕ) (delays : List ℕ) → AreLowered IsAny old new → ((p : ℕ) (line : Line) → p < k → IsLineOf a p line → IsRiddenAlong a old q p line.crossings.items delays)
      → ((line : Line) → IsLineOf a k line → IsRiddenAlong a new q k line.crossings.items delays) → (p : ℕ) (line : Line) → p < k + 1 → IsLineOf a p line → IsRiddenAlong a new q p line.crossings.items delays
  pattern_more old new q k delays lowered before here p line lt is =
      below_more (λ p. (line : Line) → IsLineOf a p line → IsRiddenAlong a new q p line.crossings.items delays) k
      (λ p lt line is. along_stays IsAny old new lowered q p line.crossings.items delays (before p line lt is)) here p lt line is

  -- what is found at the place of a pattern is its line
  pub line_found : AreRounds a.rounds → (p : ℕ) (line : Line) → p < length t.patterns → line ≡ slice_index_or a.rounds.lines.items p line
      → IsLineOf a p line × IsLine a.rounds.network.now crossings (pattern_trip t p).calls line.crossings.items
  line_found rounds p line lt is =
      let found : IsLineOf a p line = slice_get-get_or a.rounds.lines.items p line (omega (arith, lt, rounds.lines.each)) ∙ ap Some (sym is) in
      (found, rounds.lines.are p line found)

  -- and it is the only one
  pub of_line : (P : Line → Type 0) (p : ℕ) (found : Line) → IsLineOf a p found → P found → (line : Line) → IsLineOf a p line → P line
  of_line P p found there holds line is = subst P (same_Some found line (sym there ∙ is)) holds

  -- the rides of a state are taken after other delays
  module _ (old new rides : Rows) (changed : Bool) (q : ℕ) (row : Vec ℕ Global) (state : q < a.labels.states) (riding : AreRiding a old rides) (taken : AreCrossedOn a old new changed) where
    here : row_of (set rides q row) q ≡ row.items
    here = row-set_same rides q row (omega (arith, state, riding.shape.count_is))

    pub ridden_in : length row.items ≡ length crossings → ((p : ℕ) (line : Line) → IsLineOf a p line → IsRiddenAlong a new q p line.crossings.items row.items) → AreRiding a new (set rides q row)
    ridden_in each ridden = record {
      reached = taken.reached;
      shape = record {
        count_is = length-set rides q row ∙ riding.shape.count_is;
        width_is = λ k lt. elim (cases_eq k q) [
          | inl same ↦ subst (λ x. length (row_of (set rides q row) x) ≡ length crossings) (sym same) (ap length here ∙ each)
          | inr other ↦ ap length (row-set_other rides q k row other) ∙ riding.shape.width_is k lt
        ];
      };
      ridden = λ k p line lt is. elim (cases_eq k q) [
        | inl same ↦ subst (λ x. IsRiddenAlong a new x p line.crossings.items (row_of (set rides q row) x)) (sym same)
            (subst (IsRiddenAlong a new q p line.crossings.items) (sym here) (ridden p line is))
        | inr other ↦ subst (IsRiddenAlong a new k p line.crossings.items) (sym (row-set_other rides q k row other))
            (along_stays IsAny old new taken.lowered k p line.crossings.items (row_of rides k) (riding.ridden k p line lt is))
      ];
    }

  -- where nothing changes they were taken after the delays as they are
  pub state_ridden : (old new rides noted : Rows) (k : ℕ) (changed ridden : Bool) → AreCrossedOn a old new ridden → (changed ≡ false → (q : ℕ) → q < k → row_of rides q ≡ row_of old q)
      → row_of noted k ≡ row_of old k → ((q : ℕ) → q ≢ k → row_of noted q ≡ row_of rides q) → (changed || ridden) ≡ false → (q : ℕ) → q < k + 1 → row_of noted q ≡ row_of new q
  state_ridden old new rides noted k changed ridden taken before here others none =
      let both = or_parts changed ridden none in
      let same = taken.same both.1 in
      below_more (λ q. row_of noted q ≡ row_of new q) k
      (λ q lt. others q (λ e. omega (arith, lt, e)) ∙ before both.0 q lt ∙ ap (λ rows. row_of rows q) (sym same))
      (here ∙ ap (λ rows. row_of rows k) (sym same))

  module _ (rounds : AreRounds a.rounds) where
    -- at first no rides were taken
    pub riding_begins : (rows rides : Rows) → AreCrossingsReached a rows → HaveShape a.labels.states (length crossings) rides
        → ((q j : ℕ) → q < a.labels.states → j < length crossings → cell rides q j ≡ never) → AreRiding a rows rides
    riding_begins rows rides reached shape none = record {
      reached = reached;
      shape = shape;
      ridden = λ q p line state is run board alight r ride caught move. (let line_is = rounds.lines.are p line is in
          let low = line_is.within board 0 (omega (arith, ride.later, ride.within, line_is.each)) in
          absurd (omega (arith, caught.0, none q (slice_index line.crossings.items board) state low)));
    }

    -- a node has one place among the crossings
    one_place : (i j : ℕ) → i < length crossings → j < length crossings → slice_index crossings i ≡ slice_index crossings j → i ≡ j
    one_place i j low lt same = sym (a.rounds.placed i low).1 ∙ ap (slice_index a.rounds.crossing_places.items) same ∙ (a.rounds.placed j lt).1

    line_there : (p : ℕ) → p < length t.patterns → (line : Line) × IsLineOf a p line
    line_there p lt = elim (slice_get_cases a.rounds.lines.items p).1 [
      | inl found ↦ (found.0, found.2)
      | inr none ↦ absurd (omega (arith, none.0, rounds.lines.each, lt))
    ]

    -- where all rides were taken after the delays as they are, one from a crossing leads to one that is reached by then
    pub ride_crossed : (rows : Rows) → AreRidden a rows rows → (j q : ℕ) → q < a.labels.states → j < length crossings → cell rows q j < never → (trip day board alight w u r : ℕ) (letter : Option ℕ)
        → IsStep a.rounds.network.now (slice_index crossings j) (a.dep + cell rows q j) (Ride trip day board alight) w u letter → Follows a.labels q letter r → IsCrossedBy a rows (phase_node w false) r u
    ride_crossed rows ridden j q state lt some trip day board alight w u r letter step follows =
        let n = a.rounds.network.now in
        let run : Instance = record { trip = trip; day = day } in
        let (p, by) = step_is_ride n t rounds.table rounds.timetable_of (slice_index crossings j) (a.dep + cell rows q j) w u letter trip day board alight step in
        let along = by.along in
        let (line, is) = line_there p (within_patterns t rounds.table.patterns p run along.is_in) in
        let line_is = rounds.lines.are p line is in
        let xs = line.crossings.items in
        let inside : board < length (pattern_trip t p).calls = omega (arith, along.later, along.within) in
        let same : slice_index xs board ≡ j = one_place (slice_index xs board) j (line_is.within board 0 (omega (arith, inside, line_is.each))) lt (line_is.are board inside ∙ sym by.from) in
        let caught = subst (λ k. (cell rows q k < never) × (a.dep + cell rows q k ≤ departs t run board)) (sym same) (some, by.in_time) in
        subst₂ (λ v s. IsCrossedBy a rows (phase_node v false) r s) (line_is.are alight along.within ∙ sym by.to) (sym by.at)
        (ridden q p line state is run board alight r along caught (subst (λ o. Follows a.labels q o r) by.is_letter follows))
