-- What is read from a timetable's fields, as its lists.
use Rattle.plan_base.proofs.Common.{◌≡◌, ℕ, ◌<◌, ◌≤◌, ◌-◌, List, [], length, Some, None, nat_le, true, false, refl, ap, subst, sym, ◌∙◌, arith, get_or, find, slice_get, IsNonDecreasingBy, IsPartitionedBy, IsPartitionPoint, IsPartitionedBy-leb, get_or_default}
use Rattle.timetable_arcs.specs.{Instance, TripLists, TableLists, plain_table, runs_of, pattern_trip, next_run, last_run, last_arrived, arrives, departs, Board, alights, rides_at, boards_at, BoardLists, nothing_held, rides_end, AreBoards, AreAlightPlaces, IsTable}
use Rattle.timetable_arcs.proofs.{RideLemmas.IsRideFound, RideLemmas.ride_found, RideLemmas.ride_to, RideLemmas.no_board, RideLemmas.boards_rise, TableLemmas.departs_rise, TableLemmas.arrives_rise, TableLemmas.ride_fits}

-- a read by an index, at any default
pub read_at : {X : Type 0} (xs : List X) (k : ℕ) (x y d : X) → k < length xs → x ≡ get_or xs k x → y ≡ x → y ≡ get_or xs k d
read_at xs k x y d lt is same = same ∙ (is ∙ get_or_default xs k x d lt)

module _ (t : TableLists) (p call time : ℕ) (bases : List ℕ) (trips : List TripLists) (runs : List Instance)
    (same_bases : bases ≡ t.bases) (same_trips : trips ≡ t.trips) (same_runs : runs ≡ runs_of t p) where
  pub next_read : find (λ run. nat_le time (departs (plain_table bases trips) run call)) runs ≡ next_run t p call time
  next_read = rw (same_bases, same_trips, same_runs) refl

  pub last_read : last_arrived (plain_table bases trips) call time runs None ≡ last_run t p call time
  last_read = rw (same_bases, same_trips, same_runs) refl

  pub departs_rise_read : IsTable t → call < length (pattern_trip t p).calls → IsNonDecreasingBy (λ run. departs (plain_table bases trips) run call) runs
  departs_rise_read table inside = rw (same_bases, same_trips, same_runs) (departs_rise t table p call inside)

  pub arrives_rise_read : IsTable t → call < length (pattern_trip t p).calls → IsNonDecreasingBy (λ run. arrives (plain_table bases trips) run call) runs
  arrives_rise_read table inside = rw (same_bases, same_trips, same_runs) (arrives_rise t table p call inside)

-- what `ride` reads of its tables
pub record IsReadable (t : TableLists) (places : List (List ℕ)) (stop i place rides : ℕ) (boards : List Board) : Type 0 where
  pub some : 1 ≤ place
  pub within : place - 1 < length boards
  pub not_past : i ≤ rides_end boards rides place
  pub pattern : (get_or boards (place - 1) no_board).pattern < length places
  pub left : rides_end boards rides place - i ≤ length (get_or places (get_or boards (place - 1) no_board).pattern [])
  pub short : length (get_or places (get_or boards (place - 1) no_board).pattern []) - (rides_end boards rides place - i) < length (get_or places (get_or boards (place - 1) no_board).pattern [])
  pub is : slice_get (rides_at t stop) i ≡ Some (ride_to (get_or boards (place - 1) no_board).pattern (get_or boards (place - 1) no_board).call
      (get_or (get_or places (get_or boards (place - 1) no_board).pattern []) (length (get_or places (get_or boards (place - 1) no_board).pattern []) - (rides_end boards rides place - i)) 0))

module _ (t : TableLists) (table : IsTable t) (places : List (List ℕ)) (are : AreAlightPlaces t places) (stop i place : ℕ) (inside : i < length (rides_at t stop)) where
  found_readable : IsRideFound t stop i place → IsReadable t places stop i place (length (rides_at t stop)) (boards_at t stop)
  found_readable found =
      let board : Board = get_or (boards_at t stop) (place - 1) no_board in
      let fits = ride_fits t table stop i _ found.is in
      let same : get_or places board.pattern [] ≡ alights 0 (pattern_trip t board.pattern).calls = are.are board.pattern fits.pattern in
      let left = found.left in
      let past = found.not_past in
      record {
        some = found.some;
        within = found.within;
        not_past = omega (arith, past);
        pattern = omega (arith, fits.pattern, are.one_each);
        left = rw same left;
        short = rw same (omega (arith, left, past));
        is = rw same found.is;
      }

  pub readable : (held : List BoardLists) → AreBoards t held → stop < t.stops → (x : BoardLists) → x ≡ get_or held stop x → (boards : List Board) → boards ≡ x.boards → place ≤ length boards
      → (IsPartitionedBy (λ (b : Board). nat_le b.before i) boards → IsPartitionPoint (λ (b : Board). nat_le b.before i ≡ true) (λ (b : Board). nat_le b.before i ≡ false) boards place)
      → IsReadable t places stop i place x.rides boards
  readable held hold there x x_is boards boards_is bounded search_ends =
      let lt : stop < length held = rw hold.one_each there in
      let x_at : x ≡ get_or held stop nothing_held = read_at held stop x x nothing_held lt x_is refl in
      let same_boards : boards ≡ boards_at t stop = boards_is ∙ (ap (λ (h : BoardLists). h.boards) x_at ∙ hold.boards stop there) in
      let same_rides : x.rides ≡ length (rides_at t stop) = ap (λ (h : BoardLists). h.rides) x_at ∙ hold.rides stop there in
      let parted : IsPartitionedBy (λ (b : Board). nat_le b.before i) boards =
      subst (λ (bs : List Board). IsPartitionedBy (λ (b : Board). nat_le b.before i) bs) (sym same_boards) (IsPartitionedBy-leb (λ (b : Board). b.before) (boards_at t stop) i (boards_rise t stop)) in
      let point = subst (λ (bs : List Board). IsPartitionPoint (λ (b : Board). nat_le b.before i ≡ true) (λ (b : Board). nat_le b.before i ≡ false) bs place) same_boards (search_ends parted) in
      let few = subst (λ (bs : List Board). place ≤ length bs) same_boards bounded in
      subst (λ (bs : List Board). IsReadable t places stop i place x.rides bs) (sym same_boards)
      (subst (λ (n : ℕ). IsReadable t places stop i place n (boards_at t stop)) (sym same_rides) (found_readable (ride_found t stop i place inside few point)))
