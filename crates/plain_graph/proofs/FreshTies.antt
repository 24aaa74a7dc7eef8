-- The rides of a run that the state of an automaton was given are as good wherever they stand.
use Rattle.plan_base.proofs.Common.{◌≡◌, ℕ, ◌+◌, ◌-◌, ◌<◌, ◌≤◌, inl, inr, List, [], ◌∷◌, ◌++◌, length, take, drop, Bool, true, false, cond, zero, suc, Some, refl, sym, subst, ◌∙◌, ap, append-nil, arith, ◌*◌, Contains, slice_get, slice_index, slice_index_or, min, nat_le, flat_map, flat_map-append, leb-true, leb-false, get_or-drop, get_or_default, length-drop, take_more, drop-drop, drop_all, drop-append-le, take-append-drop, length-take-le, slice_get_within, get_or_from_slice_get, Contains-append_left, Contains-append_cases}
use Rattle.search_laws.specs.{Way, GivenRun, GivenRuns, KnowsBy, IsRunNoted, HasAsGood, WasGiven, HasAsGoodOrGiven, AddsFresh}
use Rattle.search_laws.proofs.FreshLemmas.{as_good_right, as_good_through, all_from, fresh_none, fresh_noted, adds_more}
use Rattle.timetable_arcs.specs.{Call, Instance, Board, TableLists, AreAlike, trip_at, runs_of, pattern_trip, no_run, no_call, IsTable}
use Rattle.timetable_arcs.proofs.{RideLemmas.no_board, RunLemmas.in_order}
use Rattle.mode_network.specs.{NetworkLists.NetworkLists, stop_node}
use Rattle.plain_graph.specs.{call_way, call_ways, day_ways, rides_behind, run_ways, board_ways, boards_ways, plain_rides}
use Rattle.plain_graph.proofs.BoardTies.{run_is}

module _ (n : NetworkLists) (base letter : ℕ) where
  abbrev to : ℕ → List Call → List Way
  to = call_ways n base letter

  ways_append : (place : ℕ) (xs ys : List Call) → to place (xs ++ ys) ≡ to place xs ++ to (place + length (to place xs)) ys
  ways_append place [] ys = let same : place ≡ place + 0 = omega arith in ap (λ (k : ℕ). to k ys) same
  ways_append place (x ∷ xs) ys = by_alight x.alight (ways_append (place + 1) xs ys) (ways_append place xs ys)
    where
      by_alight : (b : Bool) → to (place + 1) (xs ++ ys) ≡ to (place + 1) xs ++ to (place + 1 + length (to (place + 1) xs)) ys → to place (xs ++ ys) ≡ to place xs ++ to (place + length (to place xs)) ys
          → cond b (call_way n base letter place x ∷ to (place + 1) (xs ++ ys)) (to place (xs ++ ys))
          ≡ cond b (call_way n base letter place x ∷ to (place + 1) xs) (to place xs) ++ to (place + length (cond b (call_way n base letter place x ∷ to (place + 1) xs) (to place xs))) ys
      by_alight true next here =
          let same : place + 1 + length (to (place + 1) xs) ≡ place + suc (length (to (place + 1) xs)) = omega arith in
          ap (λ (ws : List Way). call_way n base letter place x ∷ ws) (next ∙ ap (λ (k : ℕ). to (place + 1) xs ++ to k ys) same)
      by_alight false next here = here

  -- rides are as good wherever they stand
  good_anywhere : (a b : ℕ) (calls : List Call) (way : Way) → Contains (to a calls) way → HasAsGood (to b calls) way
  good_anywhere a b [] way (k, lt, is) = absurd (omega (arith, lt))
  good_anywhere a b (call ∷ calls) way has = by_alight call.alight has (good_anywhere (a + 1) (b + 1) calls way) (good_anywhere a b calls way)
    where
      by_alight : (alights : Bool) → Contains (cond alights (call_way n base letter a call ∷ to (a + 1) calls) (to a calls)) way
          → (Contains (to (a + 1) calls) way → HasAsGood (to (b + 1) calls) way) → (Contains (to a calls) way → HasAsGood (to b calls) way)
          → HasAsGood (cond alights (call_way n base letter b call ∷ to (b + 1) calls) (to b calls)) way
      by_alight true (zero, lt, is) next here =
          (call_way n base letter b call, (0, omega arith, refl), record { arc = ap (λ (w : Way). w.arc) is; soon = omega (arith, ap (λ (w : Way). w.at) is) })
      by_alight true (suc k, lt, is) next here = as_good_right (call_way n base letter b call ∷ []) (to (b + 1) calls) way (next (k, omega (arith, lt), is))
      by_alight false found next here = here found

  -- those to the later ones of some calls are as good as some to all
  good_behind : (a b k m : ℕ) (calls : List Call) (way : Way) → k ≤ m → Contains (to a (drop m calls)) way → HasAsGood (to b (drop k calls)) way
  good_behind a b k m calls way le has =
      let j = m - k in
      let all = drop k calls in
      let before = to b (take j all) in
      let there : k + j ≡ m = omega (arith, le) in
      let rest : drop j all ≡ drop m calls = drop-drop j k calls ∙ ap (λ (i : ℕ). drop i calls) there in
      let parts : to b all ≡ before ++ to (b + length before) (drop m calls) =
      ap (to b) (sym (take-append-drop j all)) ∙ ways_append b (take j all) (drop j all) ∙ ap (λ (cs : List Call). before ++ to (b + length before) cs) rest in
      subst (λ (ws : List Way). HasAsGood ws way) (sym parts) (as_good_right before (to (b + length before) (drop m calls)) way (good_anywhere a (b + length before) (drop m calls) way has))

-- calls at the same stops, of runs on days with these bases, of which the first is there no later
module _ (n : NetworkLists) (early late letter : ℕ) where
  pub record IsSooner (x y : Call) : Type 0 where
    pub stop : x.stop ≡ y.stop
    pub alight : x.alight ≡ y.alight
    pub soon : early + 1000 * x.arr ≤ late + 1000 * y.arr

  good_sooner : (place : ℕ) (xs ys : List Call) → length xs ≡ length ys → ((j : ℕ) (d : Call) → j < length xs → IsSooner (slice_index_or xs j d) (slice_index_or ys j d))
      → (way : Way) → Contains (call_ways n late letter place ys) way → HasAsGood (call_ways n early letter place xs) way
  good_sooner place [] [] same each way (k, lt, is) = absurd (omega (arith, lt))
  good_sooner place [] (y ∷ ys) same each way has = absurd (omega (arith, same))
  good_sooner place (x ∷ xs) [] same each way has = absurd (omega (arith, same))
  good_sooner place (x ∷ xs) (y ∷ ys) same each way has =
      by_alight x.alight y.alight first.alight has (good_sooner (place + 1) xs ys rest later way) (good_sooner place xs ys rest later way)
    where
      first : IsSooner x y
      first = each 0 x (omega arith)

      rest : length xs ≡ length ys
      rest = omega (arith, same)

      later : (j : ℕ) (d : Call) → j < length xs → IsSooner (slice_index_or xs j d) (slice_index_or ys j d)
      later j d lt = each (suc j) d (omega (arith, lt))

      by_alight : (a b : Bool) → a ≡ b → Contains (cond b (call_way n late letter place y ∷ call_ways n late letter (place + 1) ys) (call_ways n late letter place ys)) way
          → (Contains (call_ways n late letter (place + 1) ys) way → HasAsGood (call_ways n early letter (place + 1) xs) way)
          → (Contains (call_ways n late letter place ys) way → HasAsGood (call_ways n early letter place xs) way)
          → HasAsGood (cond a (call_way n early letter place x ∷ call_ways n early letter (place + 1) xs) (call_ways n early letter place xs)) way
      by_alight true true e (zero, lt, is) next here = (
        call_way n early letter place x,
        (0, omega arith, refl),
        record {
          arc = ap (λ (stop : ℕ). record { to = stop_node n stop; letter = Some letter }) first.stop ∙ ap (λ (w : Way). w.arc) is;
          soon = omega (arith, first.soon, ap (λ (w : Way). w.at) is);
        },
      )
      by_alight true true e (suc k, lt, is) next here =
          as_good_right (call_way n early letter place x ∷ []) (call_ways n early letter (place + 1) xs) way (next (k, omega (arith, lt), is))
      by_alight false false e found next here = here found
      by_alight true false e found next here = cc
      by_alight false true e found next here = cc

-- the rides of a run from a board, where the state was given some of them
module _ (n : NetworkLists) (t : TableLists) (board : Board) (run : Instance) (alike : AreAlike (pattern_trip t board.pattern) (trip_at t run.trip))
    (within : board.call < length (pattern_trip t board.pattern).calls) (state first : ℕ) (table : IsTable t) (place : ℕ) (at : slice_get (runs_of t board.pattern) place ≡ Some run) where
  abbrev calls : List Call
  calls = (trip_at t run.trip).calls

  abbrev ways_to : ℕ → List Call → List Way
  ways_to = call_ways n (slice_index t.bases run.day) (trip_at t run.trip).letter

  abbrev pub run_from : ℕ → ℕ → GivenRun
  run_from k call = record { state = state; line = board.pattern; run = k; call = call }

  run_is_at : slice_index_or (runs_of t board.pattern) place no_run ≡ run
  run_is_at = get_or_from_slice_get (runs_of t board.pattern) place run no_run at

  -- the rides of a run of the pattern that stands no later are as good
  module _ (k : ℕ) (no_later : k ≤ place) where
    abbrev before : Instance
    before = slice_index_or (runs_of t board.pattern) k no_run

    before_within : k < length (runs_of t board.pattern)
    before_within = let inside = slice_get_within (runs_of t board.pattern) place run at in omega (arith, inside, no_later)

    before_at : (d : Instance) → slice_index_or (runs_of t board.pattern) k d ≡ before
    before_at d = get_or_default (runs_of t board.pattern) k d no_run before_within

    before_alike : AreAlike (pattern_trip t board.pattern) (trip_at t before.trip)
    before_alike = table.patterns.alike board.pattern before (k, before_within, before_at before)

    before_calls : length (trip_at t before.trip).calls ≡ length calls
    before_calls = sym before_alike.calls ∙ alike.calls

    sooner_at : (j : ℕ) (d : Call) → j < length (trip_at t before.trip).calls
        → IsSooner n (slice_index t.bases before.day) (slice_index t.bases run.day) (trip_at t run.trip).letter (slice_index_or (trip_at t before.trip).calls j d) (slice_index_or calls j d)
    sooner_at j d lt =
        let inside : j < length (pattern_trip t board.pattern).calls = omega (arith, lt, before_alike.calls) in
        let x = before_alike.each j d inside in
        let y = alike.each j d inside in
        let order = in_order t table.patterns board.pattern k place before run (before_at before) (get_or_from_slice_get (runs_of t board.pattern) place run run at)
        no_later (slice_get_within (runs_of t board.pattern) place run at) j inside in
        let here : slice_index_or (trip_at t before.trip).calls j no_call ≡ slice_index_or (trip_at t before.trip).calls j d = get_or_default (trip_at t before.trip).calls j no_call d lt in
        let there : slice_index_or calls j no_call ≡ slice_index_or calls j d = get_or_default calls j no_call d (omega (arith, lt, before_calls)) in
        record {
          stop = sym x.stop ∙ y.stop;
          alight = sym x.alight ∙ y.alight;
          soon = omega (arith, order.arrives, ap (λ (call : Call). call.arr) here, ap (λ (call : Call). call.arr) there);
        }

    good_before : (call m a : ℕ) → call < m → (way : Way) → Contains (ways_to a (drop m calls)) way → HasAsGood (rides_behind n t before call) way
    good_before call m a lt way has =
        let (x, found, good) = good_behind n (slice_index t.bases run.day) (trip_at t run.trip).letter a 0 (call + 1) m calls way (omega (arith, lt)) has in
        let long : length (drop (call + 1) (trip_at t before.trip).calls) ≡ length (drop (call + 1) calls) =
        length-drop (call + 1) (trip_at t before.trip).calls ∙ ap (λ (l : ℕ). l - (call + 1)) before_calls ∙ sym (length-drop (call + 1) calls) in
        let sooner = good_sooner n (slice_index t.bases before.day) (slice_index t.bases run.day) (trip_at t run.trip).letter 0 (drop (call + 1) (trip_at t before.trip).calls) (drop (call + 1) calls) long
        (λ j d lt. rw (get_or-drop (call + 1) (trip_at t before.trip).calls j d, get_or-drop (call + 1) calls j d)
        (sooner_at (call + 1 + j) d (omega (arith, lt, length-drop (call + 1) (trip_at t before.trip).calls)))) x found in
        as_good_through (rides_behind n t before call) x way
        (subst (λ (l : ℕ). HasAsGood (call_ways n (slice_index t.bases before.day) l 0 (drop (call + 1) (trip_at t before.trip).calls)) x) (sym alike.letter ∙ before_alike.letter) sooner) good

  listed : run_ways n t first board (Some run) ≡ ways_to first (drop (board.call + 1) calls)
  listed = run_is n t board run alike first within ∙ ap (λ (letter : ℕ). call_ways n (slice_index t.bases run.day) letter first (drop (board.call + 1) calls)) alike.letter

  was_given : (given : GivenRuns) (call m a : ℕ) → call < m → KnowsBy given state board.pattern place call → (way : Way) → Contains (ways_to a (drop m calls)) way
      → WasGiven (plain_rides n t) given state way
  was_given given call m a lt knows way has = record {
    run = run_from knows.place call;
    known = knows.known;
    to_state = refl;
    as_good = good_before knows.place knows.no_later call m a lt way has;
  }

  -- all of them
  pub run_given : (given : GivenRuns) (call : ℕ) (before : List Way) → call ≤ board.call → KnowsBy given state board.pattern place call
      → AddsFresh (plain_rides n t) state given given (run_ways n t first board (Some run)) before before
  run_given given call before le knows =
      ([], sym (append-nil before), rw listed (fresh_none (plain_rides n t) state given (ways_to first (drop (board.call + 1) calls)) (was_given given call (board.call + 1) first (omega (arith, le)) knows)))

  -- what is known of the call before which the rides of a run are listed: the state was given those from it on
  pub record IsPast (given : GivenRuns) (past : ℕ) : Type 0 where
    pub later : board.call < past
    pub inside : past ≤ length calls
    pub rest : (a : ℕ) (way : Way) → Contains (ways_to a (drop past calls)) way → WasGiven (plain_rides n t) given state way

  no_rest : (given : GivenRuns) (past : ℕ) → length calls ≤ past → (a : ℕ) (way : Way) → Contains (ways_to a (drop past calls)) way → WasGiven (plain_rides n t) given state way
  no_rest given past le a way has =
      let none : drop past calls ≡ [] = drop_all past calls le in
      let (k, lt, is) = rw none at has in
      absurd (omega (arith, lt))

  pub past_all : (given : GivenRuns) → IsPast given (length calls)
  past_all given = record { later = omega (arith, within, alike.calls); inside = omega arith; rest = no_rest given (length calls) (omega arith) }

  pub past_call : (given : GivenRuns) (call : ℕ) → board.call < call → KnowsBy given state board.pattern place call → IsPast given (min (length calls) (call + 1))
  past_call given call lt knows = record {
    later = omega (arith, within, alike.calls, lt);
    inside = omega arith;
    rest = by_end (nat_le (length calls) call) refl;
  }
    where
      by_end : (b : Bool) → nat_le (length calls) call ≡ b → (a : ℕ) (way : Way) → Contains (ways_to a (drop (min (length calls) (call + 1)) calls)) way → WasGiven (plain_rides n t) given state way
      by_end true e = let le = leb-true (length calls) call e in no_rest given (min (length calls) (call + 1)) (omega (arith, le))
      by_end false e = let le = leb-false (length calls) call e in λ a. was_given given call (min (length calls) (call + 1)) a (omega (arith, le)) knows

  -- the rides from the board are those to the calls before one, and the others
  cut : (k past a : ℕ) → k ≤ past → past ≤ length calls
      → ways_to a (drop k calls) ≡ ways_to a (drop k (take past calls)) ++ ways_to (a + length (ways_to a (drop k (take past calls)))) (drop past calls)
  cut k past a le inside =
      let some = drop k (take past calls) in
      let within_past : k ≤ length (take past calls) = omega (arith, length-take-le past calls inside, le) in
      ap (ways_to a) (ap (drop k) (sym (take-append-drop past calls)) ∙ drop-append-le k (take past calls) (drop past calls) within_past)
      ∙ ways_append n (slice_index t.bases run.day) (trip_at t run.trip).letter a some (drop past calls)

  -- those to the calls before one
  pub run_fresh : (old new : GivenRuns) (past : ℕ) (before after : List Way) → IsPast old past → IsRunNoted old new (run_from place board.call)
      → after ≡ before ++ day_ways n t board run.day first (take past calls) → AddsFresh (plain_rides n t) state old new (run_ways n t first board (Some run)) before after
  run_fresh old new past before after is_past noted is =
      let base = slice_index t.bases run.day in
      let letter = (trip_at t run.trip).letter in
      let k = board.call + 1 in
      let some = drop k (take past calls) in
      let fresh = ways_to first some in
      let rest = ways_to (first + length fresh) (drop past calls) in
      let parts = cut k past first (omega (arith, is_past.later)) is_past.inside in
      let covered : (a : ℕ) (way : Way) → Contains (ways_to a (drop k calls)) way → HasAsGoodOrGiven (plain_rides n t) state old fresh way =
      λ a way has. elim (Contains-append_cases (ways_to a some) (ways_to (a + length (ways_to a some)) (drop past calls)) way
      (rw (cut k past a (omega (arith, is_past.later)) is_past.inside) at has)) [
        | inl here ↦ inl (good_anywhere n base letter a first some way here)
        | inr there ↦ inr (is_past.rest (a + length (ways_to a some)) way there)
      ] in (
        fresh,
        is ∙ ap (λ (l : ℕ). before ++ call_ways n base l first some) alike.letter,
        rw listed (fresh_noted (plain_rides n t) state old new (run_from place board.call) (ways_to first (drop k calls)) fresh noted refl
            (rw parts (all_from (Contains (fresh ++ rest)) fresh (λ way has. Contains-append_left fresh rest way has)))
            (covered first) (λ way has. covered 0 way (subst (λ (r : Instance). Contains (rides_behind n t r board.call) way) run_is_at has))),
      )

-- the boards of a stop, one more
pub board_more : (n : NetworkLists) (t : TableLists) (time letters first state k : ℕ) (boards : List Board) (old mid new : GivenRuns) (before between after : List Way) → k < length boards
    → AddsFresh (plain_rides n t) state old mid (boards_ways n t time letters first (take k boards)) before between
    → AddsFresh (plain_rides n t) state mid new (board_ways n t time letters (first + (slice_index_or boards k no_board).before) (slice_index_or boards k no_board)) between after
    → AddsFresh (plain_rides n t) state old new (boards_ways n t time letters first (take (k + 1) boards)) before after
board_more n t time letters first state k boards old mid new before between after lt adds more =
    let board = slice_index_or boards k no_board in
    let ways_on : Board → List Way = λ board. board_ways n t time letters (first + board.before) board in
    let one : flat_map ways_on (take (k + 1) boards) ≡ flat_map ways_on (take k boards) ++ ways_on board =
    ap (flat_map ways_on) (take_more boards k no_board lt) ∙ flat_map-append ways_on (take k boards) (board ∷ []) ∙ ap (λ (ws : List Way). flat_map ways_on (take k boards) ++ ws) (append-nil (ways_on board)) in
    subst (λ (ws : List Way). AddsFresh (plain_rides n t) state old new ws before after) (sym one)
    (adds_more (plain_rides n t) state old mid new (flat_map ways_on (take k boards)) (ways_on board) before between after adds more)
