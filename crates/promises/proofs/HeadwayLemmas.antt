-- Each headway of a feed that files give is of a row of its own.
use Rattle.plan_base.proofs.Common.{◌≡◌, ℕ, suc, ◌+◌, ◌≤◌, Bool, true, false, ◌&&◌, List, [], ◌∷◌, ◌++◌, length, map, Option, Some, None, Ok, Err, refl, sym, ap, ◌∙◌, subst, arith, Result, filter_map, nat_eq, option_map, AllByRecursion, cons_option, nat_tests}
use Rattle.std.specs.List.{IsDistinct}
use Rattle.plan_base.specs.{Caps}
use Rattle.gtfs_tables.specs.{TripId, FeedFault, FeedFiles, FrequencyRow, ◌>>=◌, faultless, Row, bytes_of, feed_of, missing_file, tables_of, Frequency, frequencies, frequency_in, frequency_of, frequency_over, span_in, agencies, stops, routes, services, dates, calls, TableRow, id_in, Table, given, header_in, judged, missing_column, records_of, row_fault, row_of, rows_behind, rows_below, rows_of_file, place_among, trips, FeedLists.FeedLists}

-- two headways are of one trip and one row of frequencies.txt
abbrev pub is_same_headway : FrequencyRow → FrequencyRow → Bool
is_same_headway a b = nat_eq a.trip b.trip && nat_eq a.row b.row

-- ---- values where there is no fault

bound : {A B E : Type 0} (r : Result A E) (f : A → Result B E) (b : B) → (r >>= f) ≡ Ok b → (a : A) × (r ≡ Ok a) × (f a ≡ Ok b)
bound (Ok a) f b e = (a, refl, e)
bound (Err fault) f b e = absurd (cc)

without : {A E : Type 0} (fault : Option E) (a b : A) → faultless fault a ≡ Ok b → a ≡ b
without None a b e = cc
without (Some fault) a b e = absurd (cc)

-- ---- rows

-- the rows are those from k on
abbrev AreNumbered : ℕ → List Frequency → Type 0
AreNumbered k [] = Unit {0}
AreNumbered k (f ∷ fs) = (f.row ≡ k) × AreNumbered (suc k) fs

numbered_more : (k : ℕ) (fs : List Frequency) (f : Frequency) → AreNumbered k fs → f.row ≡ length fs + k → AreNumbered k (fs ++ f ∷ [])
numbered_more k [] f are is = (omega (arith, is), tt)
numbered_more k (x ∷ fs) f are is = (are.0, numbered_more (suc k) fs f are.1 (omega (arith, is)))

row_said : (row : TableRow) (f : Frequency) → frequency_in row ≡ Ok f → f.row ≡ row.number
row_said row f e =
    let trip = bound (id_in row TripId) _ f e in
    let span = bound (span_in row) _ f trip.2 in
    let same : Ok (record { row = row.number; trip = trip.0; span = span.0 }) ≡ Ok f = span.2 in
    let is : record { row = row.number; trip = trip.0; span = span.0 } ≡ f = cc in
    sym (ap (λ (x : Frequency). x.row) is)

module _ (ids : List (List ℕ)) (header : Row) where
  abbrev T : Table Frequency FrequencyRow
  T = frequencies ids

  rows_numbered : (rows : List Row) (earlier all : List Frequency) → rows_behind T header earlier rows ≡ Ok all → AreNumbered 2 earlier → AreNumbered 2 all
  rows_numbered [] earlier all e are = subst (AreNumbered 2) (same earlier all e) are
    where
      same : (a b : List Frequency) → ◌≡◌ {A = Result (List Frequency) FeedFault} (Ok a) (Ok b) → a ≡ b
      same a b e = cc
  rows_numbered (row ∷ rows) earlier all e are =
      let said = bound (judged T earlier (row_of T header (length earlier) row)) (λ f. rows_behind T header (earlier ++ f ∷ []) rows) all e in
      let read = bound (T.reads (row_of T header (length earlier) row)) (λ f. faultless (row_fault T (row_of T header (length earlier) row) earlier f) f) said.0 said.1 in
      let is = without (row_fault T (row_of T header (length earlier) row) earlier read.0) read.0 said.0 read.2 in
      let number = row_said (row_of T header (length earlier) row) read.0 read.1 in
      rows_numbered rows (earlier ++ said.0 ∷ []) all said.2 (numbered_more 2 earlier said.0 are (sym (ap (λ (f : Frequency). f.row) is) ∙ number))

-- the headways of rows from k on differ, and are of no earlier row
pub record AreApart (k : ℕ) (given : List FrequencyRow) : Type 0 where
  pub above : AllByRecursion (λ headway. k ≤ headway.row) given
  pub differ : IsDistinct is_same_headway given

later_above : (k : ℕ) (given : List FrequencyRow) → AllByRecursion (λ headway. suc k ≤ headway.row) given → AllByRecursion (λ headway. k ≤ headway.row) given
later_above k [] all = tt
later_above k (x ∷ given) all = (omega (arith, all.0), later_above k given all.1)

all_differ : (x : FrequencyRow) (given : List FrequencyRow) → AllByRecursion (λ headway. suc x.row ≤ headway.row) given → AllByRecursion (λ y. is_same_headway x y ≡ false) given
all_differ x [] all = tt
all_differ x (y ∷ given) all = (by_row (nat_eq x.trip y.trip) (let above = all.0 in grind (arith, nat_tests)), all_differ x given all.1)
  where
    by_row : (t : Bool) → nat_eq x.row y.row ≡ false → (t && nat_eq x.row y.row) ≡ false
    by_row true e = e
    by_row false e = refl

given_apart : (ids : List (List ℕ)) (k : ℕ) (fs : List Frequency) → AreNumbered k fs → AreApart k (filter_map (frequency_of ids) fs)
unfolding IsDistinct
given_apart ids k [] are = record { above = tt; differ = tt }
given_apart ids k (f ∷ fs) are = by_place (place_among ids f.trip) (given_apart ids (suc k) fs are.1)
  where
    by_place : (place : Option ℕ) → AreApart (suc k) (filter_map (frequency_of ids) fs) → AreApart k (cons_option (option_map (frequency_over f) place) (filter_map (frequency_of ids) fs))
    by_place None rest = record { above = later_above k (filter_map (frequency_of ids) fs) rest.above; differ = rest.differ }
    by_place (Some trip) rest = record {
      above = (omega (arith, are.0), later_above k (filter_map (frequency_of ids) fs) rest.above);
      differ = (
        all_differ (frequency_over f trip) (filter_map (frequency_of ids) fs)
            (subst (λ (j : ℕ). AllByRecursion (λ (headway : FrequencyRow). suc j ≤ headway.row) (filter_map (frequency_of ids) fs)) (sym are.0) rest.above),
        rest.differ,
      );
    }

-- ---- the table, and the feed

table_apart : (ids : List (List ℕ)) (text : Option (List ℕ)) (all : List FrequencyRow) → records_of (frequencies ids) text ≡ Ok all → IsDistinct is_same_headway all
unfolding IsDistinct
table_apart ids None all e = subst (IsDistinct is_same_headway) (same [] all e) tt
  where
    same : (a b : List FrequencyRow) → ◌≡◌ {A = Result (List FrequencyRow) FeedFault} (Ok a) (Ok b) → a ≡ b
    same a b e = cc
table_apart ids (Some text) all e =
    let t = frequencies ids in
    let rows = rows_of_file text in
    let head = bound (faultless (missing_column t.file t.needed (header_in rows)) (header_in rows)) (λ header. given t (rows_behind t header [] (rows_below rows))) all e in
    let fs = bound (rows_behind t head.0 [] (rows_below rows)) (λ fs. Ok (filter_map t.gives fs)) all head.2 in
    let apart = given_apart ids 2 fs.0 (rows_numbered ids head.0 (rows_below rows) [] fs.0 fs.1 tt) in
    subst (IsDistinct is_same_headway) (same (filter_map t.gives fs.0) all fs.2) apart.differ
  where
    same : (a b : List FrequencyRow) → ◌≡◌ {A = Result (List FrequencyRow) FeedFault} (Ok a) (Ok b) → a ≡ b
    same a b e = cc

pub headways_apart : (caps : Caps) (files : FeedFiles) (feed : FeedLists) → feed_of caps files ≡ Ok feed → IsDistinct is_same_headway feed.frequencies
unfolding feed_of
headways_apart caps files feed e =
    let there = bound (faultless (missing_file files) files) (tables_of caps) feed e in
    let zones_read = bound (records_of agencies (bytes_of there.0.agency)) _ feed there.2 in
    let stops_read = bound (records_of (stops caps) (bytes_of there.0.stops)) _ feed zones_read.2 in
    let routes_read = bound (records_of (routes caps) (bytes_of there.0.routes)) _ feed stops_read.2 in
    let services_read = bound (records_of (services caps) (bytes_of there.0.calendar)) _ feed routes_read.2 in
    let dates_read = bound (records_of (dates caps) (bytes_of there.0.calendar_dates)) _ feed services_read.2 in
    let trips_read = bound (records_of (trips caps (map (λ route. route.id) routes_read.0)) (bytes_of there.0.trips)) _ feed dates_read.2 in
    let headways_read = bound (records_of (frequencies (map (λ trip. trip.id) trips_read.0)) (bytes_of there.0.frequencies)) _ feed trips_read.2 in
    let calls_read = bound (records_of (calls caps (map (λ trip. trip.id) trips_read.0) (map (λ stop. stop.id) stops_read.0)) (bytes_of there.0.stop_times)) _ feed headways_read.2 in
    subst (IsDistinct is_same_headway) (ends feed headways_read.0 calls_read.2) (table_apart (map (λ trip. trip.id) trips_read.0) (bytes_of there.0.frequencies) headways_read.0 headways_read.1)
  where
    ends : (f : FeedLists) (headways : List FrequencyRow) {stops : _} {routes : _} {services : _} {dates : _} {trips : _} {calls : _}
        → ◌≡◌ {A = Result FeedLists FeedFault} (Ok (record { stops = stops; routes = routes; services = services; dates = dates; trips = trips; frequencies = headways; calls = calls })) (Ok f) → headways ≡ f.frequencies
    ends f headways {stops} {routes} {services} {dates} {trips} {calls} e =
        let is : record { stops = stops; routes = routes; services = services; dates = dates; trips = trips; frequencies = headways; calls = calls } ≡ f = cc in
        ap (λ (x : FeedLists). x.frequencies) is
