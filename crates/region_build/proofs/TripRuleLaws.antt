-- The trips of a region keep the rules of timetables.
use Rattle.plan_base.proofs.Common.{◌≡◌, ◌≢◌, ℕ, suc, ◌+◌, ◌/◌, ◌%◌, ◌^◌, ◌<◌, ◌≤◌, List, [], ◌∷◌, length, map, get_or, Bool, true, false, not, ◌&&◌, nat_eq, nat_le, nat_lt, Option, None, Some, if◌then◌else◌, refl, sym, ap, subst, ◌∙◌, arith, ⊎_elim, eq-eqb, IfSome, option_map, unwrap_or, bit_at, All, AllByRecursion, flat_map, list_all, IsPermutation, option_or, and_from, and_parts, cases_lt, false≢true, lt-ltb, nat_tests, length-map, All-cons, All-filter, All-from_recursion, All-head, All-map, All-nil, All-tail, All-weaker, recursion_from_All, All-permutation, length_permutation, pow_pos, bit_at-lt, bit_at_above, IfSome_then, none-some, slice_get_cases}
use Rattle.std.proofs.lemmas.Bool.{and_left}
use Rattle.std.proofs.lemmas.List.Folds.{list_all-map}
use Rattle.std.proofs.lemmas.Nat.{mod_below, shr_split}
use Rattle.std.proofs.lemmas.Nat.Bits.{bit_at_cat_low, same_from_bits}
use Rattle.plan_base.specs.{DaySet}
use Rattle.service_days.specs.{AreDays, numbers_of, DaysMeaning.DaysMeaning}
use Rattle.gtfs_tables.specs.{FeedLists.FeedLists, IsCall, IsFeed, IsFrequency, IsRoute, IsTrip, CallRow, FrequencyRow, RouteRow, StopRow, TripRow}
use Rattle.timetable_arcs.specs.TripRules as rules_of
use Rattle.timetable_arcs.specs.{TripLists, Call}
use Rattle.region_build.specs.{back_of, call_at, copies_of, copy_at, expanded, first_back, first_departure, is_kept, leaves_of, moved, rows_go_on, runs, is_of, trip_of_call, trip_of_frequency, AreDaysOf, AreSourcesFrom, AreTripSources, SourceLists, letter_of, lists_of, AreEntries, entries_from, number_from, stop_number, Source, StopEntry}
use Rattle.region_build.proofs.{ArcLaws.position_none, LeavingLaws.all_kept, LeavingLaws.leaves_run, PartLaws.flat_map-if}

-- ---- what is said of each trip

record IsRightSource (numbers stops : ℕ) (source : SourceLists) : Type 0 where
  letter : (3 ≤ source.letter) × (source.letter ≤ 13)
  days : source.days.0 < 2 ^ numbers
  calls : All (λ (call : CallRow). call.stop < stops) source.calls
  back : 0 < length (leaves_of source) → rows_go_on 0 source.calls ≡ true

-- a set that has no day from a number on is below a power of two
below_power : (x n : ℕ) → ((day : ℕ) → n ≤ day → bit_at x day ≢ 1) → x < 2 ^ n
below_power x n none =
    let small : x % 2 ^ n < 2 ^ n = mod_below x (2 ^ n) (pow_pos n) in
    let same = same_from_bits (x % 2 ^ n) x (λ i. ⊎_elim
    (λ low. sym (ap (λ y. bit_at y i) (sym (shr_split x n)) ∙ bit_at_cat_low (x / 2 ^ n) n (x % 2 ^ n) i low))
    (λ high. let bit = bit_at-lt x i in let other = none i high in bit_at_above (x % 2 ^ n) n i small high ∙ omega (arith, bit, other))
    (cases_lt i n)) in
    subst (λ y. y < 2 ^ n) same small

right_days : (feed : FeedLists) (days : DaysMeaning) (id : List ℕ) (set : DaySet) → AreDays days → AreDaysOf feed days id set → set.0 < 2 ^ length days.bases
right_days feed days id set sound are =
    below_power set.0 (length days.bases) (λ day behind e.
    let past : nat_lt day (numbers_of days) ≡ false = (let long = sound.bases_long in grind (arith, nat_tests, long, behind)) in
    let there : nat_eq (bit_at set.0 day) 1 ≡ true = eq-eqb (bit_at set.0 day) 1 e in
    false≢true (sym (are.runs day ∙ and_left _ _ past) ∙ there))

right_letter : (routes : List RouteRow) (route : ℕ) → All IsRoute routes → route < length routes → (3 ≤ letter_of routes route) × (letter_of routes route ≤ 13)
right_letter routes route all within = ⊎_elim
    (λ there.
    let is : IsRoute there.0 = subst IsRoute there.3 (all route there.0 within) in
    let same : letter_of routes route ≡ there.0.letter = ap (λ (row : Option RouteRow). unwrap_or (option_map (λ (row : RouteRow). row.letter) row) 0) there.2 in
    (subst (λ letter. 3 ≤ letter) (sym same) is.above_road, subst (λ letter. letter ≤ 13) (sym same) is.letter))
    (λ past. absurd (omega (arith, past.0, within)))
    (slice_get_cases routes route).1

or_none : (a b : Option ℕ) → option_or a b ≡ None → (a ≡ None) × (b ≡ None)
or_none None b e = (refl, e)
or_none (Some row) b e = absurd (none-some row (sym e))

on_if_none : (some on : Bool) (row : ℕ) → (if some && not on then Some row else None) ≡ None → some ≡ true → on ≡ true
on_if_none some true row e h = refl
on_if_none true false row e h = absurd (none-some row (sym e))
on_if_none false false row e h = absurd (false≢true h)

right_sources : (feed : FeedLists) (days : DaysMeaning) (calls : List CallRow) (frequencies : List FrequencyRow) (k : ℕ) (trips : List TripRow) (sources : List SourceLists)
    → AreDays days → All IsRoute feed.routes → All (IsCall (length feed.trips) (length feed.stops)) calls → AllByRecursion (IsTrip (length feed.routes)) trips
    → AreSourcesFrom feed days calls frequencies k trips sources → first_back sources ≡ None → All (IsRightSource (length days.bases) (length feed.stops)) sources
right_sources feed days calls frequencies k [] [] sound routes called trips are back = All-nil (IsRightSource (length days.bases) (length feed.stops))
right_sources feed days calls frequencies k [] (source ∷ sources) sound routes called trips are back = absurd are
right_sources feed days calls frequencies k (trip ∷ rest) [] sound routes called trips are back = absurd are
right_sources feed days calls frequencies k (trip ∷ rest) (source ∷ sources) sound routes called trips are back =
    let backs = or_none (back_of (length (leaves_of source)) source) (first_back sources) back in
    let letters = right_letter feed.routes trip.route routes trips.0.route in
    All-cons (IsRightSource (length days.bases) (length feed.stops)) source sources
    (record {
      letter = subst (λ letter. (3 ≤ letter) × (letter ≤ 13)) (sym are.0.letter) letters;
      days = right_days feed days trip.service source.days sound are.0.runs;
      calls = subst (All (λ (call : CallRow). call.stop < length feed.stops)) (sym are.0.calls_are)
          (All-filter (is_of trip_of_call k) (λ (call : CallRow). call.stop < length feed.stops) calls
          (All-weaker (IsCall (length feed.trips) (length feed.stops)) (λ (call : CallRow). call.stop < length feed.stops) (λ call is. is.stop) calls called));
      back = λ some. on_if_none (nat_lt 0 (length (leaves_of source))) (rows_go_on 0 source.calls) source.row backs.0 (lt-ltb 0 (length (leaves_of source)) some);
    })
    (right_sources feed days calls frequencies (k + 1) rest sources sound routes called trips.1 are.1 backs.1)

-- each headway takes some time
pub headways_last : (feed : FeedLists) (days : DaysMeaning) (calls : List CallRow) (frequencies : List FrequencyRow) (k : ℕ) (trips : List TripRow) (sources : List Source)
    → All (λ (row : FrequencyRow). 1 ≤ row.headway) frequencies → AreSourcesFrom feed days calls frequencies k trips (map lists_of sources)
    → AllByRecursion (λ (source : Source). AllByRecursion (λ (row : FrequencyRow). 1 ≤ row.headway) source.frequencies.now) sources
headways_last feed days calls frequencies k [] [] last are = tt
headways_last feed days calls frequencies k [] (source ∷ sources) last are = absurd are
headways_last feed days calls frequencies k (trip ∷ trips) [] last are = tt
headways_last feed days calls frequencies k (trip ∷ trips) (source ∷ sources) last are = (
  recursion_from_All (λ (row : FrequencyRow). 1 ≤ row.headway) source.frequencies.now
      (subst (All (λ (row : FrequencyRow). 1 ≤ row.headway)) (sym are.0.frequencies_are) (All-filter (is_of trip_of_frequency k) (λ (row : FrequencyRow). 1 ≤ row.headway) frequencies last)),
  headways_last feed days calls frequencies (k + 1) trips sources last are.1,
)

pub headways_right : (feed : FeedLists) (sorted : List FrequencyRow) → IsFeed feed → IsPermutation feed.frequencies sorted → All (λ (row : FrequencyRow). 1 ≤ row.headway) sorted
headways_right feed sorted sound moved =
    All-permutation (λ (row : FrequencyRow). 1 ≤ row.headway) feed.frequencies sorted moved
    (All-weaker (IsFrequency (length feed.trips)) (λ (row : FrequencyRow). 1 ≤ row.headway) (λ row is. is.headway) feed.frequencies (All-from_recursion (IsFrequency (length feed.trips)) feed.frequencies sound.frequencies))

-- ---- its copies

record IsRightTrip (numbers stops : ℕ) (trip : TripLists) : Type 0 where
  is : rules_of.is_trip numbers trip ≡ true
  known : rules_of.unknown_stop stops trip ≡ None
  on : rules_of.goes_on 0 trip.calls ≡ true

module _ (number : ℕ → Option ℕ) (first leave : ℕ) where
  -- times that are moved together go on where they did
  moved_on : (t u : ℕ) (calls : List CallRow) → u ≤ moved first leave t → rows_go_on t calls ≡ true → rules_of.goes_on u (map (call_at number first leave) calls) ≡ true
  unfolding call_at
  moved_on t u [] low e = refl
  moved_on t u (call ∷ calls) low e =
      let parts = and_parts (nat_le t call.arr && nat_le call.arr call.dep) (rows_go_on call.dep calls) e in
      let both = and_parts (nat_le t call.arr) (nat_le call.arr call.dep) parts.0 in
      let arrives : nat_le u (moved first leave call.arr) ≡ true = grind (arith, nat_tests, low, both.0) in
      let departs : nat_le (moved first leave call.arr) (moved first leave call.dep) ≡ true = grind (arith, nat_tests, both.1) in
      and_from _ _ (and_from _ _ arrives departs) (moved_on call.dep (moved first leave call.dep) calls (omega arith) parts.1)

right_copy : (number : ℕ → Option ℕ) (numbers stops known : ℕ) (source : SourceLists) (leave : ℕ) → ((stop : ℕ) → stop < stops → unwrap_or (number stop) 0 < known)
    → IsRightSource numbers stops source → runs source ≡ true → is_kept source leave ≡ true → rows_go_on 0 source.calls ≡ true → IsRightTrip numbers known (copy_at number source leave)
unfolding copy_at call_at
right_copy number numbers stops known source leave knows right goes kept on =
    let parts = and_parts (nat_le 2 (length source.calls)) (nat_lt 0 source.days.0) goes in
    let letter : (nat_le 3 source.letter && nat_le source.letter 13) ≡ true = (let l = right.letter in grind (arith, nat_tests, l)) in
    let long : nat_le 2 (length (map (call_at number (first_departure source.calls) leave) source.calls)) ≡ true =
    ap (nat_le 2) (length-map source.calls (call_at number (first_departure source.calls) leave)) ∙ parts.0 in
    let days : (nat_lt 0 source.days.0 && nat_lt source.days.0 (2 ^ numbers)) ≡ true = and_from _ _ parts.1 (lt-ltb source.days.0 (2 ^ numbers) right.days) in
    let early : list_all rules_of.is_early (map (call_at number (first_departure source.calls) leave) source.calls) ≡ true = list_all-map rules_of.is_early (call_at number (first_departure source.calls) leave) source.calls ∙ kept in
    record {
      is = and_from _ _ (and_from _ _ (and_from _ _ letter long) days) early;
      known = position_none (λ (call : Call). nat_lt call.stop known) (map (call_at number (first_departure source.calls) leave) source.calls)
          (All-map (λ (call : Call). nat_lt call.stop known ≡ true) (call_at number (first_departure source.calls) leave) source.calls
          (All-weaker (λ (call : CallRow). call.stop < stops) (λ (call : CallRow). nat_lt (unwrap_or (number call.stop) 0) known ≡ true) (λ call below. lt-ltb (unwrap_or (number call.stop) 0) known (knows call.stop below)) source.calls right.calls));
      on = moved_on number (first_departure source.calls) leave 0 0 source.calls (omega arith) on;
    }

right_copies : (number : ℕ → Option ℕ) (numbers stops known : ℕ) (source : SourceLists) → ((stop : ℕ) → stop < stops → unwrap_or (number stop) 0 < known)
    → IsRightSource numbers stops source → All (IsRightTrip numbers known) (copies_of number source)
unfolding copies_of
right_copies number numbers stops known source knows right =
    All-map (IsRightTrip numbers known) (copy_at number source) (leaves_of source) (λ k d within.
    let some : 0 < length (leaves_of source) = omega arith in
    right_copy number numbers stops known source (get_or (leaves_of source) k d) knows right (leaves_run source some) (all_kept source k d within) (right.back some))

faultless : (numbers stops k : ℕ) (trips : List TripLists) → All (IsRightTrip numbers stops) trips → rules_of.trips_fault numbers stops k trips ≡ None
faultless numbers stops k [] all = refl
faultless numbers stops k (trip ∷ trips) all =
    let one = All-head (IsRightTrip numbers stops) trip trips all in
    rw (one.is, one.known, one.on) (faultless numbers stops (k + 1) trips (All-tail (IsRightTrip numbers stops) trip trips all))

-- ---- numbers of stops

number_below : (k : ℕ) (entries : List StopEntry) (stop : ℕ) → IfSome (number_from k entries stop) (λ number. number < k + length entries)
number_below k [] stop = tt
number_below k (entry ∷ entries) stop = by_test (number_below (k + 1) entries stop) (nat_eq entry.stop stop)
  where
    by_test : IfSome (number_from (k + 1) entries stop) (λ number. number < k + 1 + length entries) → (same : Bool) → IfSome (if same then Some k else number_from (k + 1) entries stop) (λ number. number < k + length (entry ∷ entries))
    by_test rest true = omega arith
    by_test rest false = IfSome_then (number_from (k + 1) entries stop) rest (λ number below. omega (arith, below))

knows_stops : (entries : List StopEntry) (stops : ℕ) → length entries ≡ stops → (stop : ℕ) → stop < stops → unwrap_or (stop_number entries stop) 0 < length entries
unfolding stop_number
knows_stops entries stops long stop within = by_number (number_from 0 entries stop) (number_below 0 entries stop)
  where
    by_number : (number : Option ℕ) → IfSome number (λ number. number < 0 + length entries) → unwrap_or number 0 < length entries
    by_number None h = omega (arith, long, within)
    by_number (Some number) h = omega (arith, h)

entries_long : (k : ℕ) (stops : List StopRow) → length (entries_from k stops) ≡ length stops
entries_long k [] = refl
entries_long k (stop ∷ stops) = ap suc (entries_long (k + 1) stops)

-- the trips of a feed that do not go back keep the rules
pub trips_right : (feed : FeedLists) (days : DaysMeaning) (entries : List StopEntry) (sources : List SourceLists) → IsFeed feed → AreDays days → AreEntries feed.stops entries → AreTripSources feed days sources
    → first_back sources ≡ None → rules_of.trips_fault (length days.bases) (length entries) 0 (expanded (stop_number entries) sources) ≡ None
unfolding expanded
trips_right feed days entries sources sound days_sound are said back =
    let long : length entries ≡ length feed.stops = length_permutation (entries_from 0 feed.stops) entries are.same ∙ entries_long 0 feed.stops in
    let called = All-permutation (IsCall (length feed.trips) (length feed.stops)) feed.calls said.calls said.calls_are.same (All-from_recursion (IsCall (length feed.trips) (length feed.stops)) feed.calls sound.calls) in
    let right = right_sources feed days said.calls said.frequencies 0 feed.trips sources days_sound (All-from_recursion IsRoute feed.routes sound.routes) called sound.trips said.each back in
    faultless (length days.bases) (length entries) 0 (flat_map (copies_of (stop_number entries)) sources)
    (flat_map-if (IsRightTrip (length days.bases) (length entries)) (IsRightSource (length days.bases) (length feed.stops)) (copies_of (stop_number entries))
    (λ source is. right_copies (stop_number entries) (length days.bases) (length feed.stops) (length entries) source (knows_stops entries (length feed.stops) long) is) sources right)
