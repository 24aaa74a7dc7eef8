-- The rides from one board stand one behind another among the arcs of a stop.
use Rattle.plan_base.proofs.Common.{◌≡◌, ℕ, zero, suc, ◌+◌, ◌-◌, ◌<◌, ◌≤◌, ◌∙◌, ◌++◌, ◌&&◌, Bool, true, false, cond, nat_lt, List, [], ◌∷◌, length, map, take, drop, inl, inr, refl, sym, ap, subst, append_assoc, length-append, arith, slice_index_or, flat_map, drop-append-add, ltb-true, ltb-false, cases_lt, get_or_append_left, get_or-append-add, get_or-drop, get_or-map, drop-map, drop-append-le, drop-drop, drop_more, length-map}
use Rattle.search_laws.specs.{Way}
use Rattle.timetable_arcs.specs.{Call, Board, Ride as RideCalls, TableLists, pattern_trip, no_call, rides_at, boards_at, alights}
use Rattle.timetable_arcs.proofs.RideLemmas.{rides_on, from_rides}
use Rattle.mode_network.specs.NetworkLists.{NetworkLists}
use Rattle.mode_network.proofs.RuleLemmas.{both}
use Rattle.plain_graph.specs.{no_ride, pattern_call}
use Rattle.departures.specs.{FastestCall, inside.ride_to, inside.least_way, inside.least_ways, inside.ends_from}

-- ---- the calls at which one may alight

-- from a place on a list has the calls at which one may alight from one of these on, which are counted from k
record IsFrom (k : ℕ) (calls : List Call) (xs : List ℕ) (i : ℕ) : Type 0 where
  from : k ≤ slice_index_or xs i 0
  is : drop i xs ≡ alights (slice_index_or xs i 0) (drop (slice_index_or xs i 0 - k) calls)

alights_go_on : (k : ℕ) (calls : List Call) (i : ℕ) → i < length (alights k calls) → IsFrom k calls (alights k calls) i
alights_go_on k [] i lt = absurd (omega arith)
alights_go_on k (call ∷ calls) i lt = by_call call.alight refl i lt (alights_go_on (k + 1) calls)
  where
    rest : List ℕ
    rest = alights (k + 1) calls

    later : (a : ℕ) → k + 1 ≤ a → alights a (drop (a - (k + 1)) calls) ≡ alights a (drop (a - k) (call ∷ calls))
    later a le = let one : a - k ≡ suc (a - (k + 1)) = omega (arith, le) in ap (λ (m : ℕ). alights a (drop m (call ∷ calls))) (sym one)

    whole : call.alight ≡ true → alights k (drop (k - k) (call ∷ calls)) ≡ k ∷ rest
    whole e = let none : k - k ≡ 0 = omega arith in ap (λ (m : ℕ). alights k (drop m (call ∷ calls))) none ∙ ap (λ (c : Bool). cond c (k ∷ rest) rest) e

    past : (xs : List ℕ) (i j : ℕ) → IsFrom (k + 1) calls rest i → slice_index_or xs j 0 ≡ slice_index_or rest i 0 → drop j xs ≡ drop i rest → IsFrom k (call ∷ calls) xs j
    past xs i j on at same =
        let from = on.from in
        record {
          from = omega (arith, from, at);
          is = same ∙ on.is ∙ later (slice_index_or rest i 0) from ∙ ap (λ (a : ℕ). alights a (drop (a - k) (call ∷ calls))) (sym at);
        }

    by_call : (b : Bool) → call.alight ≡ b → (i : ℕ) → i < length (cond b (k ∷ rest) rest) → ((j : ℕ) → j < length rest → IsFrom (k + 1) calls rest j)
        → IsFrom k (call ∷ calls) (cond b (k ∷ rest) rest) i
    by_call true e zero lt on = record { from = omega arith; is = sym (whole e) }
    by_call true e (suc i) lt on = past (k ∷ rest) i (suc i) (on i (omega (arith, lt))) refl refl
    by_call false e i lt on = past rest i i (on i lt) refl refl

-- ---- the rides of a stop

module _ (t : TableLists) where
  -- the rides along the pattern of one from where it begins to where it ends and to each later call
  abbrev rides_from : RideCalls → List RideCalls
  rides_from ride = map (ride_to ride) (alights ride.alight (drop ride.alight (pattern_trip t ride.pattern).calls))

  record GoesOn (rides : List RideCalls) (k : ℕ) : Type 0 where
    rest : List RideCalls
    is : drop k rides ≡ rides_from (slice_index_or rides k no_ride) ++ rest

  board_goes_on : (b : Board) (i : ℕ) → i < length (rides_on t b) → drop i (rides_on t b) ≡ rides_from (slice_index_or (rides_on t b) i no_ride)
  board_goes_on b i lt =
      let calls = (pattern_trip t b.pattern).calls in
      let to : ℕ → RideCalls = λ alight. record { pattern = b.pattern; board = b.call; alight = alight } in
      let ends = alights (b.call + 1) (drop (b.call + 1) calls) in
      let a = slice_index_or ends i 0 in
      let within : i < length ends = omega (arith, lt, length-map ends to) in
      let on = alights_go_on (b.call + 1) (drop (b.call + 1) calls) i within in
      let from = on.from in
      let there : b.call + 1 + (a - (b.call + 1)) ≡ a = omega (arith, from) in
      let at : slice_index_or (rides_on t b) i no_ride ≡ to a = get_or-map to ends i 0 no_ride within in
      drop-map to i ends
      ∙ ap (map to) (on.is ∙ ap (alights a) (drop-drop (a - (b.call + 1)) (b.call + 1) calls ∙ ap (λ (k : ℕ). drop k calls) there))
      ∙ ap rides_from (sym at)

  boards_go_on : (boards : List Board) (k : ℕ) → k < length (flat_map (rides_on t) boards) → GoesOn (flat_map (rides_on t) boards) k
  boards_go_on [] k lt = absurd (omega arith)
  boards_go_on (b ∷ boards) k lt = elim (cases_lt k (length (rides_on t b))) [
    | inl here ↦ record {
      rest = flat_map (rides_on t) boards;
      is = drop-append-le k (rides_on t b) (flat_map (rides_on t) boards) (omega (arith, here))
          ∙ ap (λ (rides : List RideCalls). rides ++ flat_map (rides_on t) boards)
          (board_goes_on b k here ∙ ap rides_from (sym (get_or_append_left (rides_on t b) (flat_map (rides_on t) boards) no_ride k here)));
    }
    | inr past ↦ (let j = k - length (rides_on t b) in
        let sums = length-append (rides_on t b) (flat_map (rides_on t) boards) in
        let at : length (rides_on t b) + j ≡ k = omega (arith, past) in
        let on = boards_go_on boards j (omega (arith, lt, past, sums)) in
        record {
          rest = on.rest;
          is = ap (λ (i : ℕ). drop i (rides_on t b ++ flat_map (rides_on t) boards)) (sym at) ∙ drop-append-add (rides_on t b) (flat_map (rides_on t) boards) j ∙ on.is
              ∙ ap (λ (ride : RideCalls). rides_from ride ++ on.rest) (sym (get_or-append-add (rides_on t b) (flat_map (rides_on t) boards) j no_ride)
              ∙ ap (λ (i : ℕ). slice_index_or (rides_on t b ++ flat_map (rides_on t) boards) i no_ride) at);
        })
  ]

  stop_goes_on : (stop k : ℕ) → k < length (rides_at t stop) → GoesOn (rides_at t stop) k
  stop_goes_on stop k = subst (λ (rides : List RideCalls). k < length rides → GoesOn rides k) (from_rides t stop 0 0 t.patterns) (boards_go_on (boards_at t stop) k)

  -- behind a ride stand those from the same board to the later calls
  pub ride_behind : (stop k : ℕ) (ride : RideCalls) → k < length (rides_at t stop) → slice_index_or (rides_at t stop) k no_ride ≡ ride → (j : ℕ)
      → j < length (alights ride.alight (drop ride.alight (pattern_trip t ride.pattern).calls))
      → slice_index_or (rides_at t stop) (k + j) no_ride ≡ ride_to ride (slice_index_or (alights ride.alight (drop ride.alight (pattern_trip t ride.pattern).calls)) j 0)
  ride_behind stop k ride inside at j lt =
      let on = stop_goes_on stop k inside in
      let ends = alights ride.alight (drop ride.alight (pattern_trip t ride.pattern).calls) in
      let is : drop k (rides_at t stop) ≡ rides_from ride ++ on.rest = on.is ∙ ap (λ (r : RideCalls). rides_from r ++ on.rest) at in
      sym (get_or-drop k (rides_at t stop) j no_ride)
      ∙ ap (λ (rides : List RideCalls). slice_index_or rides j no_ride) is
      ∙ get_or_append_left (rides_from ride) on.rest no_ride j (omega (arith, lt, length-map ends (ride_to ride)))
      ∙ get_or-map (ride_to ride) ends j 0 no_ride lt

-- ---- a loop over the calls

module _ (t : TableLists) (p : ℕ) where
  -- one call more
  pub one_end : (k place past : ℕ) (b : Bool) → k < length (pattern_trip t p).calls → ((pattern_call t p k).alight && nat_lt place past) ≡ b
      → ends_from t p k (past - place) ≡ cond b (k ∷ ends_from t p (k + 1) (past - (place + 1))) (ends_from t p (k + 1) (past - place))
  one_end k place past b lt is =
      ap (λ (calls : List Call). take (past - place) (alights k calls)) (drop_more (pattern_trip t p).calls k no_call lt) ∙ by_tests (pattern_call t p k).alight (nat_lt place past) refl b is
    where
      rest : List ℕ
      rest = alights (k + 1) (drop (k + 1) (pattern_trip t p).calls)

      by_tests : (a : Bool) (l : Bool) → nat_lt place past ≡ l → (b : Bool) → a && l ≡ b
          → take (past - place) (cond a (k ∷ rest) rest) ≡ cond b (k ∷ take (past - (place + 1)) rest) (take (past - place) rest)
      by_tests true true e true is =
          let before = ltb-true place past e in
          let more : past - place ≡ suc (past - (place + 1)) = omega (arith, before) in
          ap (λ (m : ℕ). take m (k ∷ rest)) more
      by_tests true true e false is = cc
      by_tests true false e true is = cc
      by_tests true false e false is =
          let behind = ltb-false place past e in
          let none : past - place ≡ 0 = omega (arith, behind) in
          rw none refl
      by_tests false true e true is = cc
      by_tests false true e false is = refl
      by_tests false false e true is = cc
      by_tests false false e false is = refl

module _ (n : NetworkLists) (t : TableLists) (runs : List (List FastestCall)) (time : ℕ) (ride : RideCalls) where
  abbrev ends : ℕ → ℕ → List ℕ
  ends k m = ends_from t ride.pattern k m

  abbrev ways_to : ℕ → List ℕ → List Way
  ways_to place alights = least_ways n t runs time ride place alights

  -- what remains to be pushed before a call
  pub record IsUnderWay (first past k place : ℕ) (before now : List Way) : Type 0 where
    pub to : place ≤ past
    pub next : place + length (ends k (past - place)) ≡ first + length (ends ride.alight (past - first))
    pub ways : now ++ ways_to place (ends k (past - place)) ≡ before ++ ways_to first (ends ride.alight (past - first))

  -- no ride to a call
  pub passes : (first past k place : ℕ) (before now : List Way) → k < length (pattern_trip t ride.pattern).calls → ((pattern_call t ride.pattern k).alight && nat_lt place past) ≡ false
      → IsUnderWay first past k place before now → IsUnderWay first past (k + 1) place before now
  passes first past k place before now lt off is =
      let same = one_end t ride.pattern k place past false lt off in
      record {
        to = is.to;
        next = sym (ap (λ (xs : List ℕ). place + length xs) same) ∙ is.next;
        ways = sym (ap (λ (xs : List ℕ). now ++ ways_to place xs) same) ∙ is.ways;
      }

  -- one more
  pub goes_on : (first past k place : ℕ) (before now : List Way) (way : Way) → k < length (pattern_trip t ride.pattern).calls
      → ((pattern_call t ride.pattern k).alight && nat_lt place past) ≡ true → way ≡ least_way n t runs time place (ride_to ride k)
      → IsUnderWay first past k place before now → IsUnderWay first past (k + 1) (place + 1) before (now ++ way ∷ [])
  goes_on first past k place before now way lt on at is =
      let less = ltb-true place past (both (pattern_call t ride.pattern k).alight (nat_lt place past) on).1 in
      let same = one_end t ride.pattern k place past true lt on in
      let more = ends (k + 1) (past - (place + 1)) in
      let count = ap (λ (xs : List ℕ). place + length xs) same in
      let was = is.next in
      record {
        to = omega (arith, less);
        next = omega (arith, count, was);
        ways = append_assoc now (way ∷ []) (ways_to (place + 1) more) ∙ ap (λ (w : Way). now ++ w ∷ ways_to (place + 1) more) at
            ∙ sym (ap (λ (xs : List ℕ). now ++ ways_to place xs) same) ∙ is.ways;
      }
