-- A feed that was read keeps the rules of feeds.
use Rattle.plan_base.proofs.Common.{◌≡◌, ℕ, ◌+◌, ◌-◌, ◌*◌, ◌<◌, ◌≤◌, take, drop, List, [], ◌∷◌, map, length, refl, sym, ap, ap₂, subst, Bool, true, false, cond, nat_eq, nat_le, ◌&&◌, ◌||◌, Option, None, Some, Ok, arith, bytes_eq, nat_lt, option_and_then, option_map, IfSome, IsEquivalence, AllByRecursion, IsDistinct, nat_tests, nat_list_eq_equiv, position-Some, cond_some, none-some, same_Some, IfOk-at_ok}
use Rattle.std.proofs.lemmas.Cmp.{and_equiv, nat_eq_equiv, on_equiv}
use Rattle.plain_texts.specs.{fixed_at}
use Rattle.plan_base.specs.{Caps}
use Rattle.service_days.specs.{date_at}
use Rattle.gtfs_tables.specs.{CallRow, Times, Visit, Column, DateRow, FrequencyRow, Span, RouteRow, ServiceRow, StopRow, TripRow, StopTime, call_between, call_if_timed, call_row_of, calls, times_in, times_of, visit_in, added_at, feed_id_at, headway_at, hours_and_part, is_id, is_usual_at, letter_of_type, minutes_and_seconds_at, optional_time_at, positive, service_time_at, trimmed, up_to_nine_digits_at, Frequency, frequencies, frequency_of, frequency_over, span_in, routes, dates, rule_in, services, IsCall, IsFeedId, IsFrequency, IsRoute, IsTrip, is_same_call, Location, place_if_stop, stops, TableRow, field_in, id_in, value_in, TripLine, place_among, trip_of, trip_over, trips, inside.AreRead}
use Rattle.gtfs_tables.specs.declared.columns.Column.TheVariants as column
use Rattle.gtfs_tables.proofs.{CallLemmas.same_place, SoundLemmas.behind, SoundLemmas.distinct_keys, SoundLemmas.each_keeps, SoundLemmas.has_value, SoundLemmas.no_two, StopLemmas.has_id_of}

id_is : (row : TableRow) (column : Column) (id : List ℕ) → id_in row column ≡ Ok id → IsFeedId id
id_is row column id e = by_test (field_in row column) (is_id (field_in row column)) refl (has_value (feed_id_at (field_in row column)) _ id e)
  where
    by_test : (text : List ℕ) (t : Bool) → is_id text ≡ t → cond t (Some text) None ≡ Some id → is_id id ≡ true
    by_test text true is e = subst (λ id. is_id id ≡ true) (same_Some text id e) is
    by_test text false is e = absurd (none-some id e)

same_ids : {F : Type 0} (id : F → List ℕ) → IsEquivalence (λ (f g : F). bytes_eq (id f) (id g))
same_ids id = on_equiv id nat_list_eq_equiv

-- times are within a week
week : (o p : Option ℕ) (t : ℕ) → hours_and_part o p ≡ Some t → t ≤ 604799
week None p t e = absurd (none-some t e)
week (Some hours) None t e = absurd (none-some t e)
week (Some hours) (Some part) t e = by_test (nat_le (hours * 3600 + part) 604799) refl e
  where
    by_test : (few : Bool) → nat_le (hours * 3600 + part) 604799 ≡ few → cond few (Some (hours * 3600 + part)) None ≡ Some t → t ≤ 604799
    by_test true is e = subst (λ t. t ≤ 604799) (same_Some (hours * 3600 + part) t e) (grind (arith, nat_tests, is))
    by_test false is e = absurd (none-some t e)

time_within : (text : List ℕ) (t : ℕ) → service_time_at text ≡ Some t → t ≤ 604799
unfolding service_time_at
time_within text t e = by_test (nat_le 7 (length text) && nat_le (length text) 9) e
  where
    by_test : (sized : Bool) → cond sized (hours_and_part (fixed_at (take (length text - 6) text)) (minutes_and_seconds_at (drop (length text - 6) text))) None ≡ Some t → t ≤ 604799
    by_test true e = week (fixed_at (take (length text - 6) text)) (minutes_and_seconds_at (drop (length text - 6) text)) t e
    by_test false e = absurd (none-some t e)

within_a_week : (text : List ℕ) (time : Option ℕ) → optional_time_at text ≡ Some time → IfSome time (λ t. t ≤ 604799)
within_a_week [] time e = subst (λ time. IfSome time (λ t. t ≤ 604799)) (same_Some None time e) tt
within_a_week (b ∷ bs) time e = by_time (service_time_at (b ∷ bs)) refl e
  where
    by_time : (o : Option ℕ) → service_time_at (b ∷ bs) ≡ o → option_map Some o ≡ Some time → IfSome time (λ t. t ≤ 604799)
    by_time None is e = absurd (none-some time e)
    by_time (Some t) is e = subst (λ time. IfSome time (λ t. t ≤ 604799)) (same_Some (Some t) time e) (time_within (b ∷ bs) t is)

module _ (caps : Caps) (text : Option (List ℕ)) where
  -- stops
  module _ (rows : List StopRow) (read : AreRead (stops caps) text rows) where
    pub stops_keep : AllByRecursion (λ (stop : StopRow). IsFeedId stop.id) rows
    stops_keep = each_keeps (stops caps) text rows read (λ location. IsFeedId location.id) (λ stop. IsFeedId stop.id)
        (λ row.
        behind (id_in row column.StopId) _ _ (λ id is.
        behind (value_in (is_usual_at 4) row column.LocationType) _ _ (λ is_stop _.
        behind (place_if_stop row is_stop) _ _ (λ place _.
        id_is row column.StopId id is))))
        (λ location stop kept gave. subst IsFeedId (sym (has_id_of location stop gave)) kept)

    pub stop_ids : IsDistinct bytes_eq (map (λ (stop : StopRow). stop.id) rows)
    stop_ids = distinct_keys (λ stop. stop.id) bytes_eq rows (no_two (stops caps) text rows read (same_ids (λ (location : Location). location.id)) (λ stop other. bytes_eq stop.id other.id)
        (λ location other stop another gave also. ap₂ bytes_eq (has_id_of location stop gave) (has_id_of other another also)))

  -- routes
  module _ (rows : List RouteRow) (read : AreRead (routes caps) text rows) where
    letters : (n : ℕ) → (3 ≤ letter_of_type n) × (letter_of_type n ≤ 13)
    letters n = by_tests (nat_le n 7) refl (nat_eq n 11 || nat_eq n 12) refl
      where
        by_tests : (low : Bool) → nat_le n 7 ≡ low → (high : Bool) → (nat_eq n 11 || nat_eq n 12) ≡ high → (3 ≤ cond low (n + 3) (cond high n 13)) × (cond low (n + 3) (cond high n 13) ≤ 13)
        by_tests true is high _ = (omega arith, grind (arith, nat_tests, is))
        by_tests false _ true is = (grind (arith, nat_tests, is), grind (arith, nat_tests, is))
        by_tests false _ false _ = (omega arith, omega arith)

    pub routes_keep : AllByRecursion IsRoute rows
    routes_keep = each_keeps (routes caps) text rows read IsRoute IsRoute
        (λ row.
        behind (id_in row column.RouteId) _ _ (λ id is.
        behind (value_in up_to_nine_digits_at row column.RouteType) _ _ (λ type _.
        record { id = id_is row column.RouteId id is; above_road = (letters type).0; letter = (letters type).1 })))
        (λ route row kept gave. subst IsRoute (same_Some route row gave) kept)

    pub route_ids : IsDistinct bytes_eq (map (λ (route : RouteRow). route.id) rows)
    route_ids = distinct_keys (λ route. route.id) bytes_eq rows (no_two (routes caps) text rows read (same_ids (λ (route : RouteRow). route.id)) (λ route other. bytes_eq route.id other.id)
        (λ route other row another gave also. ap₂ (λ (r s : RouteRow). bytes_eq r.id s.id) (sym (same_Some route row gave)) (sym (same_Some other another also))))

  -- services
  module _ (rows : List ServiceRow) (read : AreRead (services caps) text rows) where
    pub services_keep : AllByRecursion (λ (service : ServiceRow). IsFeedId service.id) rows
    services_keep = each_keeps (services caps) text rows read (λ service. IsFeedId service.id) (λ service. IsFeedId service.id)
        (λ row.
        behind (id_in row column.ServiceId) _ _ (λ id is.
        behind (rule_in row) _ _ (λ rule _.
        id_is row column.ServiceId id is)))
        (λ service row kept gave. subst (λ (service : ServiceRow). IsFeedId service.id) (same_Some service row gave) kept)

    pub service_ids : IsDistinct bytes_eq (map (λ (service : ServiceRow). service.id) rows)
    service_ids = distinct_keys (λ service. service.id) bytes_eq rows (no_two (services caps) text rows read (same_ids (λ (service : ServiceRow). service.id)) (λ service other. bytes_eq service.id other.id)
        (λ service other row another gave also. ap₂ (λ (r s : ServiceRow). bytes_eq r.id s.id) (sym (same_Some service row gave)) (sym (same_Some other another also))))

  -- dates
  module _ (rows : List DateRow) (read : AreRead (dates caps) text rows) where
    pub dates_keep : AllByRecursion (λ (date : DateRow). IsFeedId date.id) rows
    dates_keep = each_keeps (dates caps) text rows read (λ date. IsFeedId date.id) (λ date. IsFeedId date.id)
        (λ row.
        behind (id_in row column.ServiceId) _ _ (λ id is.
        behind (value_in date_at row column.Date) _ _ (λ date _.
        behind (value_in added_at row column.ExceptionType) _ _ (λ added _.
        id_is row column.ServiceId id is))))
        (λ date row kept gave. subst (λ (date : DateRow). IsFeedId date.id) (same_Some date row gave) kept)

  -- trips
  module _ (route_ids : List (List ℕ)) (rows : List TripRow) (read : AreRead (trips caps route_ids) text rows) where
    -- a trip is that of its row, over a route that is there
    record IsOver (line : TripLine) (trip : TripRow) : Type 0 where
      is : trip ≡ trip_over line trip.route
      there : trip.route < length route_ids

    is_over : (line : TripLine) (trip : TripRow) → trip_of route_ids line ≡ Some trip → IsOver line trip
    is_over line trip e = by_place (place_among route_ids line.route) refl e
      where
        by_place : (o : Option ℕ) → place_among route_ids line.route ≡ o → option_map (trip_over line) o ≡ Some trip → IsOver line trip
        by_place None at e = absurd (none-some trip e)
        by_place (Some place) at e =
            let same = same_Some (trip_over line place) trip e in
            subst (IsOver line) same (record { is = refl; there = (position-Some (bytes_eq line.route) route_ids place [] at).0 })

    pub trips_keep : AllByRecursion (IsTrip (length route_ids)) rows
    trips_keep = each_keeps (trips caps route_ids) text rows read (λ line. IsFeedId line.id × IsFeedId line.service) (IsTrip (length route_ids))
        (λ row.
        behind (id_in row column.TripId) _ _ (λ id is.
        behind (id_in row column.RouteId) _ _ (λ route _.
        behind (id_in row column.ServiceId) _ _ (λ service also.
        (id_is row column.TripId id is, id_is row column.ServiceId service also)))))
        (λ line trip kept gave.
        let over = is_over line trip gave in
        record { id = subst IsFeedId (sym (ap (λ (trip : TripRow). trip.id) over.is)) kept.0; service = subst IsFeedId (sym (ap (λ (trip : TripRow). trip.service) over.is)) kept.1; route = over.there })

    pub trip_ids : IsDistinct bytes_eq (map (λ (trip : TripRow). trip.id) rows)
    trip_ids = distinct_keys (λ trip. trip.id) bytes_eq rows (no_two (trips caps route_ids) text rows read (same_ids (λ (line : TripLine). line.id)) (λ trip other. bytes_eq trip.id other.id)
        (λ line other trip another gave also. ap₂ bytes_eq (ap (λ (trip : TripRow). trip.id) (is_over line trip gave).is) (ap (λ (trip : TripRow). trip.id) (is_over other another also).is)))

  -- headways
  module _ (trip_ids : List (List ℕ)) (rows : List FrequencyRow) (read : AreRead (frequencies trip_ids) text rows) where
    record IsSpan (span : Span) : Type 0 where
      start : span.start ≤ 604799
      end : span.end ≤ 604799
      headway : 1 ≤ span.headway

    headway_is : (o : Option ℕ) (headway : ℕ) → option_and_then positive o ≡ Some headway → 1 ≤ headway
    headway_is None headway e = absurd (none-some headway e)
    headway_is (Some n) headway e = let is = cond_some (nat_lt 0 n) n headway e in grind (arith, nat_tests, is)

    over : (frequency : Frequency) (row : FrequencyRow) → IsSpan frequency.span → frequency_of trip_ids frequency ≡ Some row → IsFrequency (length trip_ids) row
    over frequency row span e = by_place (place_among trip_ids frequency.trip) refl e
      where
        by_place : (o : Option ℕ) → place_among trip_ids frequency.trip ≡ o → option_map (frequency_over frequency) o ≡ Some row → IsFrequency (length trip_ids) row
        by_place None at e = absurd (none-some row e)
        by_place (Some place) at e =
            subst (IsFrequency (length trip_ids)) (same_Some (frequency_over frequency place) row e)
            (record { trip = (position-Some (bytes_eq frequency.trip) trip_ids place [] at).0; start = span.start; end = span.end; headway = span.headway })

    pub frequencies_keep : AllByRecursion (IsFrequency (length trip_ids)) rows
    frequencies_keep = each_keeps (frequencies trip_ids) text rows read (λ frequency. IsSpan frequency.span) (IsFrequency (length trip_ids))
        (λ row.
        behind (id_in row column.TripId) _ _ (λ trip _.
        behind (span_in row) _ _ (λ span is.
        IfOk-at_ok IsSpan is
        (behind (value_in service_time_at row column.StartTime) _ _ (λ start begins.
        behind (value_in service_time_at row column.EndTime) _ _ (λ end ends.
        behind (value_in headway_at row column.HeadwaySecs) _ _ (λ headway steady.
        behind (value_in (is_usual_at 1) row column.ExactTimes) _ _ (λ inexact _.
        record {
          start = time_within (trimmed (field_in row column.StartTime)) start (has_value _ _ start begins);
          end = time_within (trimmed (field_in row column.EndTime)) end (has_value _ _ end ends);
          headway = headway_is (up_to_nine_digits_at (trimmed (field_in row column.HeadwaySecs))) headway (has_value _ _ headway steady);
        }))))))))
        (λ frequency row kept gave. over frequency row kept gave)

  -- calls
  module _ (trip_ids stop_ids : List (List ℕ)) (rows : List CallRow) (read : AreRead (calls caps trip_ids stop_ids) text rows) where
    abbrev AreTimes : Times → Type 0
    AreTimes times = (times.arr ≤ 604799) × (times.dep ≤ 604799)

    -- a call is that of its row, of a trip and at a stop that are there
    record IsBetween (time : StopTime) (call : CallRow) : Type 0 where
      trip : place_among trip_ids time.trip ≡ Some call.trip
      stop : place_among stop_ids time.stop ≡ Some call.stop
      sequence : call.sequence ≡ time.visit.sequence
      times : time.visit.times ≡ Some (record { arr = call.arr; dep = call.dep })

    is_between : (time : StopTime) (call : CallRow) → call_row_of trip_ids stop_ids time ≡ Some call → IsBetween time call
    is_between time call e = by_places (place_among trip_ids time.trip) refl (place_among stop_ids time.stop) refl e
      where
        by_times : (trip stop : ℕ) → place_among trip_ids time.trip ≡ Some trip → place_among stop_ids time.stop ≡ Some stop → (o : Option Times) → time.visit.times ≡ o
            → call_if_timed time.row trip stop (record time.visit { times = o }) ≡ Some call → IsBetween time call
        by_times trip stop here there None at e = absurd (none-some call e)
        by_times trip stop here there (Some times) at e =
            subst (IsBetween time) (same_Some _ call e) (record { trip = here; stop = there; sequence = refl; times = at })

        by_places : (o : Option ℕ) → place_among trip_ids time.trip ≡ o → (p : Option ℕ) → place_among stop_ids time.stop ≡ p → call_between time o p ≡ Some call → IsBetween time call
        by_places None here p there e = absurd (none-some call e)
        by_places (Some trip) here None there e = absurd (none-some call e)
        by_places (Some trip) here (Some stop) there e = by_times trip stop here there time.visit.times refl e

    times_within : (arr dep : Option ℕ) → IfSome arr (λ t. t ≤ 604799) → IfSome dep (λ t. t ≤ 604799) → IfSome (times_of arr dep) AreTimes
    times_within None None arrives departs = tt
    times_within (Some arr) None arrives departs = (arrives, arrives)
    times_within None (Some dep) arrives departs = (departs, departs)
    times_within (Some arr) (Some dep) arrives departs = (arrives, departs)

    pub calls_keep : AllByRecursion (IsCall (length trip_ids) (length stop_ids)) rows
    calls_keep = each_keeps (calls caps trip_ids stop_ids) text rows read (λ time. IfSome time.visit.times AreTimes) (IsCall (length trip_ids) (length stop_ids))
        (λ row.
        behind (id_in row column.TripId) _ _ (λ trip _.
        behind (id_in row column.StopId) _ _ (λ stop _.
        behind (visit_in row) _ _ (λ visit is.
        IfOk-at_ok (λ (visit : Visit). IfSome visit.times AreTimes) is
        (behind (value_in up_to_nine_digits_at row column.StopSequence) _ _ (λ sequence _.
        behind (times_in row) _ _ (λ times timed.
        behind (value_in (is_usual_at 3) row column.PickupType) _ _ (λ board _.
        behind (value_in (is_usual_at 3) row column.DropOffType) _ _ (λ alight _.
        IfOk-at_ok (λ times. IfSome times AreTimes) timed
        (behind (value_in optional_time_at row column.ArrivalTime) _ _ (λ arr arrives.
        behind (value_in optional_time_at row column.DepartureTime) _ _ (λ dep departs.
        times_within arr dep (within_a_week (trimmed (field_in row column.ArrivalTime)) arr (has_value _ _ arr arrives)) (within_a_week (trimmed (field_in row column.DepartureTime)) dep (has_value _ _ dep departs))))))))))))))
        (λ time call kept gave.
        let between = is_between time call gave in
        let within = subst (λ (times : Option Times). IfSome times AreTimes) between.times kept in
        record {
          trip = (position-Some (bytes_eq time.trip) trip_ids call.trip [] between.trip).0;
          stop = (position-Some (bytes_eq time.stop) stop_ids call.stop [] between.stop).0;
          arr = within.0;
          dep = within.1;
        })

    pub sequences : IsDistinct is_same_call rows
    sequences = no_two (calls caps trip_ids stop_ids) text rows read
        (and_equiv (on_equiv (λ (time : StopTime). time.trip) nat_list_eq_equiv) (on_equiv (λ (time : StopTime). time.visit.sequence) nat_eq_equiv)) is_same_call
        (λ time other call another gave also.
        let between = is_between time call gave in
        let too = is_between other another also in
        ap₂ ◌&&◌ (sym (same_place trip_ids time.trip other.trip call.trip another.trip between.trip too.trip)) (ap₂ nat_eq between.sequence too.sequence))
