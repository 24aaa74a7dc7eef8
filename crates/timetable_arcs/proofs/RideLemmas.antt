-- The rides at a stop: from which board each is, and where it ends.
use Rattle.plan_base.proofs.Common.{◌≡◌, ℕ, ◌+◌, ◌-◌, ◌*◌, ◌<◌, ◌≤◌, ◌&&◌, List, [], ◌∷◌, ◌++◌, length, Some, true, false, Bool, cond, nat_lt, nat_le, nat_eq, map, take, drop, refl, ap, sym, subst, ◌∙◌, arith, suc, zero, get_or, length-append, slice_get, slice_index_or, Contains, All, sum_by, flat_map, IsPartitionPoint, IsNonDecreasingBy, le_refl, ltb-true, ltb-false, leb-true, leb-false, eqb-true, eqb-false, eq-eqb, length-map, length-drop, drop-drop, get_or-drop, get_or-map, get_or-append-add, take_more, take_all, flat_map-append, length-flat_map, All-cons, All-nil, All-append, All-map, All-weaker, Contains-append_left, Contains-append_right, sum_by-cons, sum_by-take-le, count_by-le-length, slice_get-get_or, slice_get_past}
use Rattle.std.proofs.Common.{take-take}
use Rattle.std.proofs.lemmas.List.Concat.{get_or-flat_map}
use Rattle.timetable_arcs.specs.{Call, Instance, Board, Ride, TableLists, trip_at, runs_of, pattern_trip, no_run, no_call, alights, rides_along, rides_from, rides_at, boards_along, boards_from, boards_at, IsRideAt, end_at, rides_end}
use Rattle.timetable_arcs.proofs.{BoardLemmas.length-alights, TripLemmas.both_true}

abbrev pub ride_to : ℕ → ℕ → ℕ → Ride
ride_to pattern board alight = record { pattern = pattern; board = board; alight = alight }

abbrev pub no_board : Board
no_board = record { pattern = 0; call = 0; before = 0 }

-- the rest of a list behind its first element
module _ {X : Type 0} (whole : List X) (k : ℕ) (x : X) (xs : List X) (is : x ∷ xs ≡ drop k whole) where
  rest_is : xs ≡ drop (k + 1) whole
  rest_is = ap (drop 1) is ∙ drop-drop 1 k whole

  first_is : (d : X) → get_or whole k d ≡ x
  first_is d =
      let here : k + 0 ≡ k = omega arith in
      sym (ap (λ (j : ℕ). get_or whole j d) here) ∙ (sym (get_or-drop k whole 0 d) ∙ ap (λ (ys : List X). get_or ys 0 d) (sym is))

  is_within : k < length whole
  is_within = omega (arith, ap length is, length-drop k whole)

past_end : {X : Type 0} (whole : List X) (k : ℕ) → [] ≡ drop k whole → length whole ≤ k
past_end {X} whole k is = let none : ◌≡◌ {A = ℕ} 0 (length (drop k whole)) = ap length is in omega (arith, none, length-drop k whole)

-- one may alight at a later call
pub record IsAlight (calls : List Call) (k place : ℕ) : Type 0 where
  pub from : k ≤ place
  pub within : place < length calls
  pub alight : (slice_index_or calls place no_call).alight ≡ true

later_alight : (calls : List Call) (k place : ℕ) → IsAlight calls (k + 1) place → IsAlight calls k place
later_alight calls k place h = record { from = omega (arith, h.from); within = h.within; alight = h.alight }

alights_are : (whole : List Call) (k : ℕ) (calls : List Call) → calls ≡ drop k whole → All (IsAlight whole k) (alights k calls)
alights_are whole k [] is = All-nil (IsAlight whole k)
alights_are whole k (c ∷ cs) is = by_call c.alight refl (All-weaker (IsAlight whole (k + 1)) (IsAlight whole k) (later_alight whole k) (alights (k + 1) cs) (alights_are whole (k + 1) cs (rest_is whole k c cs is)))
  where
    by_call : (b : Bool) → c.alight ≡ b → All (IsAlight whole k) (alights (k + 1) cs) → All (IsAlight whole k) (cond b (k ∷ alights (k + 1) cs) (alights (k + 1) cs))
    by_call true e rest = All-cons (IsAlight whole k) k (alights (k + 1) cs)
        (record { from = le_refl k; within = is_within whole k c cs is; alight = ap (λ (call : Call). call.alight) (first_is whole k c cs is no_call) ∙ e }) rest
    by_call false e rest = rest

Contains-cons : {X : Type 0} (x y : X) (xs : List X) → Contains xs y → Contains (x ∷ xs) y
Contains-cons x y xs (k, within, is) = (suc k, omega arith, is)

contains_map : {X Y : Type 0} (f : X → Y) (xs : List X) (x : X) → Contains xs x → Contains (map f xs) (f x)
contains_map f xs x (k, within, is) = (k, rw (length-map xs f) within, get_or-map f xs k x (f x) within ∙ ap f is)

alight_there : (whole : List Call) (k : ℕ) (calls : List Call) → calls ≡ drop k whole → (place : ℕ) → IsAlight whole k place → Contains (alights k calls) place
alight_there whole k [] is place h = absurd (omega (arith, past_end whole k is, h.from, h.within))
alight_there whole k (c ∷ cs) is place h = by_place (nat_eq k place) refl (alight_there whole (k + 1) cs (rest_is whole k c cs is) place)
  where
    here : k ≡ place → c.alight ≡ true
    here e = ap (λ (call : Call). call.alight) (sym (first_is whole k c cs is no_call) ∙ ap (λ (j : ℕ). get_or whole j no_call) e) ∙ h.alight

    on : (b : Bool) → Contains (alights (k + 1) cs) place → Contains (cond b (k ∷ alights (k + 1) cs) (alights (k + 1) cs)) place
    on true later = Contains-cons k place (alights (k + 1) cs) later
    on false later = later

    by_place : (b : Bool) → nat_eq k place ≡ b → (IsAlight whole (k + 1) place → Contains (alights (k + 1) cs) place) → Contains (cond c.alight (k ∷ alights (k + 1) cs) (alights (k + 1) cs)) place
    by_place true e later = let same = eqb-true k place e in rw (here same) (0, omega arith, same)
    by_place false e later =
        let apart = eqb-false k place e in
        on c.alight (later (record { from = omega (arith, h.from, apart); within = h.within; alight = h.alight }))

-- the places at which one may alight, cut at a call
alights_cut : (k c : ℕ) (calls : List Call) → alights k calls ≡ alights k (take c calls) ++ alights (k + c) (drop c calls)
alights_cut k zero calls = let same : k ≡ k + 0 = omega arith in ap (λ (j : ℕ). alights j calls) same
alights_cut k (suc c) [] = refl
alights_cut k (suc c) (call ∷ calls) = by_call call.alight (alights_cut (k + 1) c calls)
  where
    by_call : (b : Bool) → alights (k + 1) calls ≡ alights (k + 1) (take c calls) ++ alights (k + 1 + c) (drop c calls)
        → cond b (k ∷ alights (k + 1) calls) (alights (k + 1) calls) ≡ cond b (k ∷ alights (k + 1) (take c calls)) (alights (k + 1) (take c calls)) ++ alights (k + suc c) (drop c calls)
    by_call true e = let same : k + 1 + c ≡ k + suc c = omega arith in ap (λ (xs : List ℕ). k ∷ xs) (e ∙ ap (λ (j : ℕ). alights (k + 1) (take c calls) ++ alights j (drop c calls)) same)
    by_call false e = let same : k + 1 + c ≡ k + suc c = omega arith in e ∙ ap (λ (j : ℕ). alights (k + 1) (take c calls) ++ alights j (drop c calls)) same

module _ (t : TableLists) where
  -- the rides from a board
  abbrev pub rides_on : Board → List Ride
  rides_on b = map (ride_to b.pattern b.call) (alights (b.call + 1) (drop (b.call + 1) (pattern_trip t b.pattern).calls))

  rides_on_is : (p k n : ℕ) (cs : List Call) → cs ≡ drop (k + 1) (pattern_trip t p).calls → map (ride_to p k) (alights (k + 1) cs) ≡ rides_on (record { pattern = p; call = k; before = n })
  rides_on_is p k n cs is = ap (λ (xs : List Call). map (ride_to p k) (alights (k + 1) xs)) is

  along_rides : (p stop n k : ℕ) (calls : List Call) → calls ≡ drop k (pattern_trip t p).calls → flat_map rides_on (boards_along p stop n k calls) ≡ rides_along p stop k calls
  along_rides p stop n k [] is = refl
  along_rides p stop n k (c ∷ cs) is =
      let rest = rest_is (pattern_trip t p).calls k c cs is in
      by_test (nat_eq c.stop stop && c.board) rest (along_rides p stop (n + length (alights (k + 1) cs)) (k + 1) cs rest) (along_rides p stop n (k + 1) cs rest)
    where
      by_test : (b : Bool) → cs ≡ drop (k + 1) (pattern_trip t p).calls
          → flat_map rides_on (boards_along p stop (n + length (alights (k + 1) cs)) (k + 1) cs) ≡ rides_along p stop (k + 1) cs
          → flat_map rides_on (boards_along p stop n (k + 1) cs) ≡ rides_along p stop (k + 1) cs
          → flat_map rides_on (cond b (record { pattern = p; call = k; before = n } ∷ boards_along p stop (n + length (alights (k + 1) cs)) (k + 1) cs) (boards_along p stop n (k + 1) cs))
          ≡ cond b (map (ride_to p k) (alights (k + 1) cs) ++ rides_along p stop (k + 1) cs) (rides_along p stop (k + 1) cs)
      by_test true rest with_board without =
          ap (λ (xs : List Ride). xs ++ flat_map rides_on (boards_along p stop (n + length (alights (k + 1) cs)) (k + 1) cs)) (sym (rides_on_is p k n cs rest))
          ∙ ap (λ (xs : List Ride). map (ride_to p k) (alights (k + 1) cs) ++ xs) with_board
      by_test false rest with_board without = without

  -- all rides at a stop are those of its boards in turn
  pub from_rides : (stop n p : ℕ) (patterns : List (List Instance)) → flat_map rides_on (boards_from t stop n p patterns) ≡ rides_from t stop p patterns
  from_rides stop n p [] = refl
  from_rides stop n p (runs ∷ patterns) =
      let calls = (pattern_trip t p).calls in
      let m = n + length (rides_along p stop 0 calls) in
      flat_map-append rides_on (boards_along p stop n 0 calls) (boards_from t stop m (p + 1) patterns)
      ∙ (ap (λ (xs : List Ride). xs ++ flat_map rides_on (boards_from t stop m (p + 1) patterns)) (along_rides p stop n 0 calls refl)
      ∙ ap (λ (xs : List Ride). rides_along p stop 0 calls ++ xs) (from_rides stop m (p + 1) patterns))

  -- each board has the number of rides before it, of which there are n before the first
  abbrev pub AreCounted : ℕ → List Board → Type 0
  AreCounted n [] = Unit {0}
  AreCounted n (b ∷ boards) = (b.before ≡ n) × AreCounted (n + length (rides_on b)) boards

  counted_append : (n : ℕ) (xs ys : List Board) → AreCounted n xs → AreCounted (n + length (flat_map rides_on xs)) ys → AreCounted n (xs ++ ys)
  counted_append n [] ys h rest = let same : n + 0 ≡ n = omega arith in subst (λ (m : ℕ). AreCounted m ys) same rest
  counted_append n (x ∷ xs) ys h rest =
      let same : n + length (rides_on x ++ flat_map rides_on xs) ≡ n + length (rides_on x) + length (flat_map rides_on xs) = omega (arith, length-append (rides_on x) (flat_map rides_on xs)) in
      (h.0, counted_append (n + length (rides_on x)) xs ys h.1 (subst (λ (m : ℕ). AreCounted m ys) same rest))

  along_counted : (p stop n k : ℕ) (calls : List Call) → calls ≡ drop k (pattern_trip t p).calls → AreCounted n (boards_along p stop n k calls)
  along_counted p stop n k [] is = tt
  along_counted p stop n k (c ∷ cs) is =
      let rest = rest_is (pattern_trip t p).calls k c cs is in
      by_test (nat_eq c.stop stop && c.board) rest (along_counted p stop (n + length (alights (k + 1) cs)) (k + 1) cs rest) (along_counted p stop n (k + 1) cs rest)
    where
      by_test : (b : Bool) → cs ≡ drop (k + 1) (pattern_trip t p).calls
          → AreCounted (n + length (alights (k + 1) cs)) (boards_along p stop (n + length (alights (k + 1) cs)) (k + 1) cs)
          → AreCounted n (boards_along p stop n (k + 1) cs)
          → AreCounted n (cond b (record { pattern = p; call = k; before = n } ∷ boards_along p stop (n + length (alights (k + 1) cs)) (k + 1) cs) (boards_along p stop n (k + 1) cs))
      by_test true rest with_board without =
          let same = ap (λ (xs : List Ride). n + length xs) (rides_on_is p k n cs rest) in
          let counted = ap (λ (m : ℕ). n + m) (length-map (alights (k + 1) cs) (ride_to p k)) in
          (refl, subst (λ (m : ℕ). AreCounted m (boards_along p stop (n + length (alights (k + 1) cs)) (k + 1) cs)) (sym counted ∙ same) with_board)
      by_test false rest with_board without = without

  pub from_counted : (stop n p : ℕ) (patterns : List (List Instance)) → AreCounted n (boards_from t stop n p patterns)
  from_counted stop n p [] = tt
  from_counted stop n p (runs ∷ patterns) =
      let calls = (pattern_trip t p).calls in
      let m = n + length (rides_along p stop 0 calls) in
      counted_append n (boards_along p stop n 0 calls) (boards_from t stop m (p + 1) patterns) (along_counted p stop n 0 calls refl)
      (subst (λ (j : ℕ). AreCounted j (boards_from t stop m (p + 1) patterns)) (ap (λ (xs : List Ride). n + length xs) (sym (along_rides p stop n 0 calls refl))) (from_counted stop m (p + 1) patterns))

  before_at : (n : ℕ) (boards : List Board) → AreCounted n boards → (k : ℕ) (d : Board) → k < length boards → (get_or boards k d).before ≡ n + length (flat_map rides_on (take k boards))
  before_at n [] h k d lt = absurd (omega arith)
  before_at n (b ∷ boards) h zero d lt = omega (arith, h.0)
  before_at n (b ∷ boards) h (suc k) d lt =
      omega (arith, before_at (n + length (rides_on b)) boards h.1 k d (omega arith), length-append (rides_on b) (flat_map rides_on (take k boards)))

  -- along the boards of a stop the number of rides before each does not fall
  pub boards_rise : (stop : ℕ) → IsNonDecreasingBy (λ (b : Board). b.before) (boards_at t stop)
  boards_rise stop i j d le lt =
      let all = boards_at t stop in
      let counts : Board → ℕ = λ b. length (rides_on b) in
      let at_i = before_at 0 all (from_counted stop 0 0 t.patterns) i d (omega arith) in
      let at_j = before_at 0 all (from_counted stop 0 0 t.patterns) j d lt in
      let less = sum_by-take-le counts (take j all) i in
      let same : sum_by counts (take i (take j all)) ≡ sum_by counts (take i all) = ap (sum_by counts) (take-take i j all le) in
      omega (arith, at_i, at_j, less, same, length-flat_map rides_on (take i all), length-flat_map rides_on (take j all))

  -- what a search by halves among the boards of a stop finds
  pub record IsRideFound (stop i place : ℕ) : Type 0 where
    pub some : 1 ≤ place
    pub within : place - 1 < length (boards_at t stop)
    pub not_past : i < rides_end (boards_at t stop) (length (rides_at t stop)) place
    pub left : rides_end (boards_at t stop) (length (rides_at t stop)) place - i ≤ length (alights 0 (pattern_trip t (get_or (boards_at t stop) (place - 1) no_board).pattern).calls)
    pub is : slice_get (rides_at t stop) i ≡ Some (ride_to (get_or (boards_at t stop) (place - 1) no_board).pattern (get_or (boards_at t stop) (place - 1) no_board).call
        (get_or (alights 0 (pattern_trip t (get_or (boards_at t stop) (place - 1) no_board).pattern).calls)
        (length (alights 0 (pattern_trip t (get_or (boards_at t stop) (place - 1) no_board).pattern).calls) - (rides_end (boards_at t stop) (length (rides_at t stop)) place - i)) 0))

  module _ (stop i place : ℕ) (inside : i < length (rides_at t stop)) (bounded : place ≤ length (boards_at t stop))
      (point : IsPartitionPoint (λ (b : Board). nat_le b.before i ≡ true) (λ (b : Board). nat_le b.before i ≡ false) (boards_at t stop) place) where
    all_rides : flat_map rides_on (boards_at t stop) ≡ rides_at t stop
    all_rides = from_rides stop 0 0 t.patterns

    counted : AreCounted 0 (boards_at t stop)
    counted = from_counted stop 0 0 t.patterns

    some_place : 1 ≤ place
    some_place = by_place (nat_lt 0 place) refl
      where
        none : place ≤ 0 → (boards : List Board) → boards_at t stop ≡ boards → ⊥
        none le [] e =
            let no_rides : length (flat_map rides_on (boards_at t stop)) ≡ length (flat_map rides_on []) = ap (λ (bs : List Board). length (flat_map rides_on bs)) e in
            omega (arith, inside, ap length all_rides, no_rides)
        none le (b ∷ boards) e =
            let some : 0 < length (boards_at t stop) = rw e (omega arith) in
            let late = leb-false _ _ (point.1 0 no_board le some) in
            let early = before_at 0 (boards_at t stop) counted 0 no_board some in
            omega (arith, late, early)

        by_place : (c : Bool) → nat_lt 0 place ≡ c → 1 ≤ place
        by_place true e = ltb-true 0 place e
        by_place false e = absurd (none (ltb-false 0 place e) (boards_at t stop) refl)

    abbrev board : Board
    board = get_or (boards_at t stop) (place - 1) no_board

    abbrev end : ℕ
    end = rides_end (boards_at t stop) (length (rides_at t stop)) place

    board_within : place - 1 < length (boards_at t stop)
    board_within = omega (arith, some_place, bounded)

    starts : board.before ≡ length (flat_map rides_on (take (place - 1) (boards_at t stop)))
    starts = before_at 0 (boards_at t stop) counted (place - 1) no_board board_within ∙ omega arith

    not_late : board.before ≤ i
    not_late = leb-true board.before i (point.0 (place - 1) no_board (omega arith) (omega (arith, some_place)))

    up_to : length (flat_map rides_on (take place (boards_at t stop))) ≡ board.before + length (rides_on board)
    up_to =
        let one_on : place - 1 + 1 ≡ place = omega (arith, some_place) in
        let more : take place (boards_at t stop) ≡ take (place - 1) (boards_at t stop) ++ board ∷ [] =
        ap (λ (k : ℕ). take k (boards_at t stop)) (sym one_on) ∙ take_more (boards_at t stop) (place - 1) no_board board_within in
        let joined = ap (λ (bs : List Board). length (flat_map rides_on bs)) more ∙ ap length (flat_map-append rides_on (take (place - 1) (boards_at t stop)) (board ∷ [])) in
        let last : length (flat_map rides_on (board ∷ [])) ≡ length (rides_on board) = omega (arith, length-append (rides_on board) []) in
        omega (arith, joined, last, starts, length-append (flat_map rides_on (take (place - 1) (boards_at t stop))) (flat_map rides_on (board ∷ [])))

    record Ends : Type 0 where
      is : end ≡ board.before + length (rides_on board)
      past : i < end

    ends_there : Ends
    ends_there = by_place (nat_lt place (length (boards_at t stop))) refl
      where
        by_place : (c : Bool) → nat_lt place (length (boards_at t stop)) ≡ c → Ends
        by_place true e =
            let lt = ltb-true _ _ e in
            let here : end ≡ (get_or (boards_at t stop) place no_board).before = ap (end_at (length (rides_at t stop))) (slice_get-get_or (boards_at t stop) place no_board lt) in
            let before = before_at 0 (boards_at t stop) counted place no_board lt in
            let late = leb-false _ _ (point.1 place no_board (le_refl place) lt) in
            record { is = omega (arith, here, before, up_to); past = omega (arith, here, late) }
        by_place false e =
            let le = ltb-false _ _ e in
            let here : end ≡ length (rides_at t stop) = ap (end_at (length (rides_at t stop))) (slice_get_past (boards_at t stop) place le) in
            let all = ap (λ (bs : List Board). length (flat_map rides_on bs)) (take_all place (boards_at t stop) le) in
            record { is = omega (arith, here, all, up_to, ap length all_rides); past = omega (arith, here, inside) }

    abbrev calls : List Call
    calls = (pattern_trip t board.pattern).calls

    abbrev later : List ℕ
    later = alights (board.call + 1) (drop (board.call + 1) calls)

    abbrev earlier : List ℕ
    earlier = alights 0 (take (board.call + 1) calls)

    as_many : length (rides_on board) ≡ length later
    as_many = length-map later (ride_to board.pattern board.call)

    cut : alights 0 calls ≡ earlier ++ later
    cut = alights_cut 0 (board.call + 1) calls ∙ (let same : 0 + (board.call + 1) ≡ board.call + 1 = omega arith in ap (λ (j : ℕ). earlier ++ alights j (drop (board.call + 1) calls)) same)

    sums : length (alights 0 calls) ≡ length earlier + length later
    sums = ap length cut ∙ length-append earlier later

    ride_is : get_or (rides_at t stop) i (ride_to 0 0 0) ≡ ride_to board.pattern board.call (get_or later (i - board.before) 0)
    ride_is =
        let short : i - board.before < length (rides_on board) = omega (arith, not_late, ends_there.is, ends_there.past) in
        let index : length (flat_map rides_on (take (place - 1) (boards_at t stop))) + (i - board.before) ≡ i = omega (arith, starts, not_late) in
        ap (λ (rides : List Ride). get_or rides i (ride_to 0 0 0)) (sym all_rides)
        ∙ (ap (λ (j : ℕ). get_or (flat_map rides_on (boards_at t stop)) j (ride_to 0 0 0)) (sym index)
        ∙ (get_or-flat_map rides_on (boards_at t stop) (place - 1) (i - board.before) no_board (ride_to 0 0 0) board_within short
        ∙ get_or-map (ride_to board.pattern board.call) later (i - board.before) 0 (ride_to 0 0 0) (omega (arith, short, as_many))))

    alight_is : get_or (alights 0 calls) (length (alights 0 calls) - (end - i)) 0 ≡ get_or later (i - board.before) 0
    alight_is =
        let index : length (alights 0 calls) - (end - i) ≡ length earlier + (i - board.before) = omega (arith, sums, ends_there.is, ends_there.past, not_late, as_many) in
        ap (λ (j : ℕ). get_or (alights 0 calls) j 0) index
        ∙ (ap (λ (places : List ℕ). get_or places (length earlier + (i - board.before)) 0) cut
        ∙ get_or-append-add earlier later (i - board.before) 0)

    pub ride_found : IsRideFound stop i place
    ride_found = record {
      some = some_place;
      within = board_within;
      not_past = ends_there.past;
      left = omega (arith, sums, ends_there.is, not_late, as_many);
      is = slice_get-get_or (rides_at t stop) i (ride_to 0 0 0) inside ∙ ap Some (ride_is ∙ ap (ride_to board.pattern board.call) (sym alight_is));
    }

  -- each ride at a stop is a ride of some pattern, and each is there
  along_fits : (p stop k : ℕ) (calls : List Call) → p < length t.patterns → calls ≡ drop k (pattern_trip t p).calls → All (IsRideAt t stop) (rides_along p stop k calls)
  along_fits p stop k [] lt is = All-nil (IsRideAt t stop)
  along_fits p stop k (c ∷ cs) lt is = by_test (nat_eq c.stop stop && c.board) refl (along_fits p stop (k + 1) cs lt (rest_is (pattern_trip t p).calls k c cs is))
    where
      one : nat_eq c.stop stop && c.board ≡ true → (place : ℕ) → IsAlight (pattern_trip t p).calls (k + 1) place → IsRideAt t stop (ride_to p k place)
      one e place h =
          let both = both_true (nat_eq c.stop stop) c.board e in
          let here = first_is (pattern_trip t p).calls k c cs is no_call in
          record {
            pattern = lt;
            later = omega (arith, h.from);
            within = h.within;
            at_stop = ap (λ (call : Call). call.stop) here ∙ eqb-true c.stop stop both.0;
            boards = ap (λ (call : Call). call.board) here ∙ both.1;
            alights = h.alight;
          }

      by_test : (b : Bool) → (nat_eq c.stop stop && c.board) ≡ b → All (IsRideAt t stop) (rides_along p stop (k + 1) cs)
          → All (IsRideAt t stop) (cond b (map (ride_to p k) (alights (k + 1) cs) ++ rides_along p stop (k + 1) cs) (rides_along p stop (k + 1) cs))
      by_test true e rest =
          All-append (IsRideAt t stop) (map (ride_to p k) (alights (k + 1) cs)) (rides_along p stop (k + 1) cs)
          (All-map (IsRideAt t stop) (ride_to p k) (alights (k + 1) cs)
          (All-weaker (IsAlight (pattern_trip t p).calls (k + 1)) (λ (place : ℕ). IsRideAt t stop (ride_to p k place)) (one e) (alights (k + 1) cs)
          (alights_are (pattern_trip t p).calls (k + 1) cs (rest_is (pattern_trip t p).calls k c cs is))))
          rest
      by_test false e rest = rest

  from_fits : (stop p : ℕ) (patterns : List (List Instance)) → p + length patterns ≤ length t.patterns → All (IsRideAt t stop) (rides_from t stop p patterns)
  from_fits stop p [] le = All-nil (IsRideAt t stop)
  from_fits stop p (runs ∷ patterns) le =
      All-append (IsRideAt t stop) (rides_along p stop 0 (pattern_trip t p).calls) (rides_from t stop (p + 1) patterns)
      (along_fits p stop 0 (pattern_trip t p).calls (omega arith) refl) (from_fits stop (p + 1) patterns (omega arith))

  pub all_fit : (stop : ℕ) → All (IsRideAt t stop) (rides_at t stop)
  all_fit stop = from_fits stop 0 t.patterns (omega arith)

  along_there : (p stop k : ℕ) (calls : List Call) → calls ≡ drop k (pattern_trip t p).calls → (ride : Ride) → ride.pattern ≡ p → k ≤ ride.board → IsRideAt t stop ride
      → Contains (rides_along p stop k calls) ride
  along_there p stop k [] is ride same le h =
      let short = subst (λ (j : ℕ). ride.alight < length (pattern_trip t j).calls) same h.within in
      absurd (omega (arith, past_end (pattern_trip t p).calls k is, h.later, short))
  along_there p stop k (c ∷ cs) is ride same le h = by_place (nat_eq k ride.board) refl (along_there p stop (k + 1) cs (rest_is (pattern_trip t p).calls k c cs is) ride same)
    where
      on : (b : Bool) → Contains (rides_along p stop (k + 1) cs) ride
          → Contains (cond b (map (ride_to p k) (alights (k + 1) cs) ++ rides_along p stop (k + 1) cs) (rides_along p stop (k + 1) cs)) ride
      on true later = Contains-append_right (map (ride_to p k) (alights (k + 1) cs)) (rides_along p stop (k + 1) cs) ride later
      on false later = later

      here : k ≡ ride.board → get_or (pattern_trip t ride.pattern).calls ride.board no_call ≡ c
      here e =
          ap (λ (j : ℕ). get_or (pattern_trip t j).calls ride.board no_call) same
          ∙ (ap (λ (j : ℕ). get_or (pattern_trip t p).calls j no_call) (sym e) ∙ first_is (pattern_trip t p).calls k c cs is no_call)

      test : k ≡ ride.board → (nat_eq c.stop stop && c.board) ≡ true
      test e =
          let at_stop = eq-eqb c.stop stop (ap (λ (call : Call). call.stop) (sym (here e)) ∙ h.at_stop) in
          let boards = ap (λ (call : Call). call.board) (sym (here e)) ∙ h.boards in
          rw (at_stop, boards) refl

      ends : k ≡ ride.board → Contains (map (ride_to p k) (alights (k + 1) cs)) ride
      ends e =
          let whole = (pattern_trip t p).calls in
          let alight : IsAlight whole (k + 1) ride.alight = record {
            from = omega (arith, h.later, e);
            within = subst (λ (j : ℕ). ride.alight < length (pattern_trip t j).calls) same h.within;
            alight = ap (λ (j : ℕ). (get_or (pattern_trip t j).calls ride.alight no_call).alight) (sym same) ∙ h.alights;
          } in
          let is_ride : ride_to p k ride.alight ≡ ride = ap (λ (j : ℕ). ride_to j k ride.alight) (sym same) ∙ ap (λ (j : ℕ). ride_to ride.pattern j ride.alight) e in
          subst (Contains (map (ride_to p k) (alights (k + 1) cs))) is_ride
          (contains_map (ride_to p k) (alights (k + 1) cs) ride.alight (alight_there whole (k + 1) cs (rest_is whole k c cs is) ride.alight alight))

      by_place : (b : Bool) → nat_eq k ride.board ≡ b → (k + 1 ≤ ride.board → IsRideAt t stop ride → Contains (rides_along p stop (k + 1) cs) ride)
          → Contains (cond (nat_eq c.stop stop && c.board) (map (ride_to p k) (alights (k + 1) cs) ++ rides_along p stop (k + 1) cs) (rides_along p stop (k + 1) cs)) ride
      by_place true e later =
          let at = eqb-true k ride.board e in
          rw (test at) (Contains-append_left (map (ride_to p k) (alights (k + 1) cs)) (rides_along p stop (k + 1) cs) ride (ends at))
      by_place false e later =
          let apart = eqb-false k ride.board e in
          on (nat_eq c.stop stop && c.board) (later (omega (arith, le, apart)) h)

  from_there : (stop p : ℕ) (patterns : List (List Instance)) → length t.patterns ≤ p + length patterns → (ride : Ride) → p ≤ ride.pattern → IsRideAt t stop ride
      → Contains (rides_from t stop p patterns) ride
  from_there stop p [] len ride le h = absurd (omega (arith, len, le, h.pattern))
  from_there stop p (runs ∷ patterns) len ride le h = by_place (nat_eq ride.pattern p) refl (from_there stop (p + 1) patterns (omega (arith, len)) ride)
    where
      by_place : (b : Bool) → nat_eq ride.pattern p ≡ b → (p + 1 ≤ ride.pattern → IsRideAt t stop ride → Contains (rides_from t stop (p + 1) patterns) ride)
          → Contains (rides_along p stop 0 (pattern_trip t p).calls ++ rides_from t stop (p + 1) patterns) ride
      by_place true e later =
          Contains-append_left (rides_along p stop 0 (pattern_trip t p).calls) (rides_from t stop (p + 1) patterns) ride
          (along_there p stop 0 (pattern_trip t p).calls refl ride (eqb-true ride.pattern p e) (omega arith) h)
      by_place false e later =
          let apart = eqb-false ride.pattern p e in
          Contains-append_right (rides_along p stop 0 (pattern_trip t p).calls) (rides_from t stop (p + 1) patterns) ride (later (omega (arith, le, apart)) h)

  pub each_there : (stop : ℕ) (ride : Ride) → IsRideAt t stop ride → Contains (rides_at t stop) ride
  each_there stop ride h = from_there stop 0 t.patterns (omega arith) ride (omega arith) h

-- how many rides there are
along_few : (p stop k most : ℕ) (calls : List Call) → length calls ≤ most → length (rides_along p stop k calls) ≤ most * length calls
along_few p stop k most [] le = omega arith
along_few p stop k most (c ∷ cs) le = by_test (nat_eq c.stop stop && c.board) (along_few p stop (k + 1) most cs (omega arith))
  where
    by_test : (b : Bool) → length (rides_along p stop (k + 1) cs) ≤ most * length cs
        → length (cond b (map (ride_to p k) (alights (k + 1) cs) ++ rides_along p stop (k + 1) cs) (rides_along p stop (k + 1) cs)) ≤ most * suc (length cs)
    by_test true rest =
        omega (
          arith,
          rest,
          le,
          length-append (map (ride_to p k) (alights (k + 1) cs)) (rides_along p stop (k + 1) cs),
          length-map (alights (k + 1) cs) (ride_to p k),
          length-alights (k + 1) cs,
          count_by-le-length (λ (call : Call). call.alight) cs,
        )
    by_test false rest = omega (arith, rest)

-- the calls of the pattern of these runs
abbrev pub calls_of_runs : TableLists → List Instance → ℕ
calls_of_runs t runs = length (trip_at t (slice_index_or runs 0 no_run).trip).calls

from_few : (t : TableLists) (stop p most : ℕ) (patterns : List (List Instance)) → ((k : ℕ) → k < length patterns → get_or patterns k [] ≡ runs_of t (p + k))
    → ((place : ℕ) → length (trip_at t place).calls ≤ most) → length (rides_from t stop p patterns) ≤ most * sum_by (calls_of_runs t) patterns
from_few t stop p most [] are short = omega arith
from_few t stop p most (runs ∷ patterns) are short =
    let zero_more : p + 0 ≡ p = omega arith in
    let here : runs ≡ runs_of t p = are 0 (omega arith) ∙ ap (runs_of t) zero_more in
    let one = along_few p stop 0 most (pattern_trip t p).calls (short (slice_index_or (runs_of t p) 0 no_run).trip) in
    let same : length (pattern_trip t p).calls ≡ calls_of_runs t runs = ap (calls_of_runs t) (sym here) in
    let rest = from_few t stop (p + 1) most patterns (λ k lt. let next : p + suc k ≡ p + 1 + k = omega arith in are (suc k) (omega arith) ∙ ap (runs_of t) next) short in
    let total = sum_by-cons (calls_of_runs t) runs patterns in
    let parts = length-append (rides_along p stop 0 (pattern_trip t p).calls) (rides_from t stop (p + 1) patterns) in
    let spread : most * sum_by (calls_of_runs t) (runs ∷ patterns) ≡ most * length (pattern_trip t p).calls + most * sum_by (calls_of_runs t) patterns = rw (total, ← same) (omega arith) in
    omega (arith, one, rest, parts, spread)

pub at_few : (t : TableLists) (stop most : ℕ) → ((place : ℕ) → length (trip_at t place).calls ≤ most) → length (rides_at t stop) ≤ most * sum_by (calls_of_runs t) t.patterns
at_few t stop most short = from_few t stop 0 most t.patterns (λ k lt. let same : k ≡ 0 + k = omega arith in ap (runs_of t) same) short

module _ (t : TableLists) where
  -- a board is a call of a pattern
  pub record IsBoardOf (b : Board) : Type 0 where
    pub pattern : b.pattern < length t.patterns
    pub call : b.call < length (pattern_trip t b.pattern).calls

  along_boards : (p stop n k : ℕ) (calls : List Call) → p < length t.patterns → calls ≡ drop k (pattern_trip t p).calls → All IsBoardOf (boards_along p stop n k calls)
  along_boards p stop n k [] lt is = All-nil IsBoardOf
  along_boards p stop n k (c ∷ cs) lt is =
      let rest = rest_is (pattern_trip t p).calls k c cs is in
      by_test (nat_eq c.stop stop && c.board) (along_boards p stop (n + length (alights (k + 1) cs)) (k + 1) cs lt rest) (along_boards p stop n (k + 1) cs lt rest)
    where
      by_test : (b : Bool) → All IsBoardOf (boards_along p stop (n + length (alights (k + 1) cs)) (k + 1) cs) → All IsBoardOf (boards_along p stop n (k + 1) cs)
          → All IsBoardOf (cond b (record { pattern = p; call = k; before = n } ∷ boards_along p stop (n + length (alights (k + 1) cs)) (k + 1) cs) (boards_along p stop n (k + 1) cs))
      by_test true with_board without =
          All-cons IsBoardOf (record { pattern = p; call = k; before = n }) (boards_along p stop (n + length (alights (k + 1) cs)) (k + 1) cs)
          (record { pattern = lt; call = is_within (pattern_trip t p).calls k c cs is }) with_board
      by_test false with_board without = without

  from_boards : (stop n p : ℕ) (patterns : List (List Instance)) → p + length patterns ≤ length t.patterns → All IsBoardOf (boards_from t stop n p patterns)
  from_boards stop n p [] within = All-nil IsBoardOf
  from_boards stop n p (runs ∷ patterns) within =
      let m = n + length (rides_along p stop 0 (pattern_trip t p).calls) in
      All-append IsBoardOf (boards_along p stop n 0 (pattern_trip t p).calls) (boards_from t stop m (p + 1) patterns)
      (along_boards p stop n 0 (pattern_trip t p).calls (omega (arith, within)) refl)
      (from_boards stop m (p + 1) patterns (omega (arith, within)))

  pub boards_fit : (stop : ℕ) → All IsBoardOf (boards_at t stop)
  boards_fit stop = from_boards stop 0 0 t.patterns (omega arith)
