-- The trips keep the rules of timetables.
use Rattle.plan_base.proofs.Common.{◌≡◌, ℕ, ◌+◌, ◌*◌, ◌<◌, ◌≤◌, List, [], ◌∷◌, ◌++◌, length, length-append, map, nat_eq, nat_le, nat_lt, Bool, true, false, Option, None, Some, if◌then◌else◌, unwrap_or, refl, ap, ◌∙◌, arith, lt-ltb, le-leb, leb-true, option_to_list, position, All, flat_map, list_all, and_from, length-map, length-flat_map, All-append, All-cons, All-head, All-map, All-nil, All-tail, All-weaker, length-range_with_len, position-Some, count_by-le-length, length-filter, sum_by-le, mul-le}
use Rattle.plain_texts.specs.{name_of}
use Rattle.timetable_arcs.specs.{calls_of, goes_on, is_early, is_trip, trips_fault, unknown_stop, TripLists, Call}
use Rattle.sample_city.specs.{crossing, is_stop_line, lines, stop_lines, corner_text, buses, calls_along, city_trips, corner_stop_number, fleet_trips, line_stops, line_trips, stop_place, trams, trip_along, trip_in, Corner, CityStop, Fleet}
use Rattle.sample_city.proofs.{ArcLaws.position_none, CityLaws.flat_map-if, RangeLaws.below_end}

-- ---- calls

along_long : (time : ℕ) (stops : List ℕ) → length (calls_along time stops) ≡ length stops
along_long time [] = refl
along_long time (stop ∷ stops) = (let rest = along_long (time + 140) stops in omega (arith, rest))

along_early : (time : ℕ) (stops : List ℕ) → time + 140 * length stops < 600000 → list_all is_early (calls_along time stops) ≡ true
along_early time [] soon = refl
along_early time (stop ∷ stops) soon =
    and_from _ _ (and_from _ _ (le-leb time 604799 (omega (arith, soon))) (le-leb (time + 20) 604799 (omega (arith, soon)))) (along_early (time + 140) stops (omega (arith, soon)))

along_goes_on : (before time : ℕ) (stops : List ℕ) → before ≤ time → goes_on before (calls_along time stops) ≡ true
along_goes_on before time [] le = refl
along_goes_on before time (stop ∷ stops) le =
    and_from _ _ (and_from _ _ (le-leb before time le) (le-leb time (time + 20) (omega arith))) (along_goes_on (time + 20) (time + 140) stops (omega arith))

along_known : (count time : ℕ) (stops : List ℕ) → All (λ stop. stop < count) stops → All (λ (call : Call). nat_lt call.stop count ≡ true) (calls_along time stops)
along_known count time [] all = All-nil (λ (call : Call). nat_lt call.stop count ≡ true)
along_known count time (stop ∷ stops) all =
    All-cons (λ (call : Call). nat_lt call.stop count ≡ true) _ (calls_along (time + 140) stops) (lt-ltb stop count (All-head (λ stop. stop < count) stop stops all))
    (along_known count (time + 140) stops (All-tail (λ stop. stop < count) stop stops all))

-- ---- trips

-- a trip that keeps the rules, over ten days and so many stops
record IsRight (count : ℕ) (trip : TripLists) : Type 0 where
  is : is_trip 10 trip ≡ true
  known : unknown_stop count trip ≡ None
  on : goes_on 0 trip.calls ≡ true
  short : length trip.calls ≤ 300

faultless : (count k : ℕ) (trips : List TripLists) → All (IsRight count) trips → trips_fault 10 count k trips ≡ None
faultless count k [] all = refl
faultless count k (trip ∷ trips) all =
    let one = All-head (IsRight count) trip trips all in
    rw (one.is, one.known, one.on) (faultless count (k + 1) trips (All-tail (IsRight count) trip trips all))

module _ (count line : ℕ) (stops : List ℕ) (fleet : Fleet) (low : 3 ≤ fleet.letter) (high : fleet.letter ≤ 13) (often : fleet.every ≤ 900) (soon : fleet.trips ≤ 108) (two : 2 ≤ length stops) (few : length stops ≤ 300) (known : All (λ stop. stop < count) stops) where
  trip_right : (j : ℕ) → j < fleet.trips → All (IsRight count) (trip_along fleet line stops j)
  trip_right j below = by_name (name_of (corner_text fleet.head line j))
    where
      early : 18000 + fleet.every * j + 140 * length stops < 600000
      early = (let most = mul-le fleet.every j 900 108 often (omega (arith, soon, below)) in omega (arith, most, few))

      by_name : (name : Option (List ℕ)) → All (IsRight count) (option_to_list (trip_in fleet.letter (18000 + fleet.every * j) stops name))
      by_name None = All-nil (IsRight count)
      by_name (Some name) =
          All-cons (IsRight count) _ []
          (record {
            is = and_from _ _ (and_from _ _ (and_from _ _ (and_from _ _ (le-leb 3 fleet.letter low) (le-leb fleet.letter 13 high)) (ap (nat_le 2) (along_long (18000 + fleet.every * j) stops) ∙ le-leb 2 (length stops) two)) refl)
                (along_early (18000 + fleet.every * j) stops early);
            known = position_none (λ (call : Call). nat_lt call.stop count) (calls_along (18000 + fleet.every * j) stops) (along_known count (18000 + fleet.every * j) stops known);
            on = along_goes_on 0 (18000 + fleet.every * j) stops (omega arith);
            short = omega (arith, along_long (18000 + fleet.every * j) stops, few);
          })
          (All-nil (IsRight count))

  line_right : All (IsRight count) (line_trips fleet line stops)
  line_right = flat_map-if (IsRight count) (λ j. j < fleet.trips) (trip_along fleet line stops) trip_right (lines fleet.trips) (below_end fleet.trips)

-- ---- how many there are

-- what gives so many at most for each of so many at most
flat_few : {X Y : Type 0} (f : X → List Y) (most many : ℕ) → ((x : X) → length (f x) ≤ most) → (xs : List X) → length xs ≤ many → length (flat_map f xs) ≤ many * most
flat_few f most many each xs few =
    let sum = sum_by-le (λ x. length (f x)) most xs (λ k d below. each _) in
    let product = mul-le (length xs) most many most few (omega arith) in
    omega (arith, length-flat_map f xs, sum, product)

one_trip : (fleet : Fleet) (line : ℕ) (stops : List ℕ) (j : ℕ) → length (trip_along fleet line stops j) ≤ 1
one_trip fleet line stops j = by_name (name_of (corner_text fleet.head line j))
  where
    by_name : (name : Option (List ℕ)) → length (option_to_list (trip_in fleet.letter (18000 + fleet.every * j) stops name)) ≤ 1
    by_name None = omega arith
    by_name (Some name) = omega arith

line_few : (fleet : Fleet) (line : ℕ) (stops : List ℕ) → length (line_trips fleet line stops) ≤ fleet.trips * 1
line_few fleet line stops = flat_few (trip_along fleet line stops) 1 fleet.trips (one_trip fleet line stops) (lines fleet.trips) (omega (arith, length-range_with_len 0 fleet.trips))

-- ---- the trips of the city

pub lines_within : (n : ℕ) → length (stop_lines n) ≤ n
lines_within n = omega (arith, length-filter is_stop_line (lines n), count_by-le-length is_stop_line (lines n), length-range_with_len 0 n)

module _ (n : ℕ) (size : n ≤ 300) (city : List CityStop) where
  lines_few : length (stop_lines n) ≤ 300
  lines_few = omega (arith, lines_within n, size)

  number_below : (at : Corner) → 0 < length city → corner_stop_number city at < length city
  number_below at some = by_place (stop_place city at) refl
    where
      by_place : (place : Option ℕ) → stop_place city at ≡ place → unwrap_or place 0 < length city
      by_place None e = omega (arith, some)
      by_place (Some place) e = by_city city e
        where
          by_city : (city : List CityStop) → position (λ (stop : CityStop). nat_eq stop.id at.id) city ≡ Some place → place < length city
          by_city [] e = absurd cc
          by_city (stop ∷ stops) e = (position-Some (λ (stop : CityStop). nat_eq stop.id at.id) (stop ∷ stops) place stop e).0

  along_lines : (at : ℕ → Corner) → 0 < length city → All (λ stop. stop < length city) (map (λ line. corner_stop_number city (at line)) (stop_lines n))
  along_lines at some = All-map (λ stop. stop < length city) (λ line. corner_stop_number city (at line)) (stop_lines n) (λ k d below. number_below (at _) some)

  fleet_right : (fleet : Fleet) → 3 ≤ fleet.letter → fleet.letter ≤ 13 → fleet.every ≤ 900 → fleet.trips ≤ 108 → 2 ≤ length (stop_lines n) → 0 < length city → All (IsRight (length city)) (fleet_trips n city (stop_lines n) fleet)
  fleet_right fleet low high often soon two some =
      flat_map-if (IsRight (length city)) (λ line. Unit {0}) (λ line. line_trips fleet line (line_stops n city (stop_lines n) fleet.way line)) (λ line any.
      let long = length-map (stop_lines n) (λ other. corner_stop_number city (crossing n fleet.way line other)) in
      line_right (length city) line (line_stops n city (stop_lines n) fleet.way line) fleet low high often soon (omega (arith, two, long)) (omega (arith, lines_few, long)) (along_lines (crossing n fleet.way line) some)) (stop_lines n) (λ k d within. tt)

  fleet_few : (fleet : Fleet) → length (fleet_trips n city (stop_lines n) fleet) ≤ 300 * (fleet.trips * 1)
  fleet_few fleet = flat_few (λ line. line_trips fleet line (line_stops n city (stop_lines n) fleet.way line)) (fleet.trips * 1) 300 (λ line. line_few fleet line _) (stop_lines n) lines_few

  module _ (some : 2 ≤ length (stop_lines n) → 0 < length city) where
    rules_kept : All (IsRight (length city)) (city_trips n city)
    rules_kept = by_test (nat_le 2 (length (stop_lines n))) refl
      where
        by_test : (t : Bool) → nat_le 2 (length (stop_lines n)) ≡ t
            → All (IsRight (length city)) (if t then fleet_trips n city (stop_lines n) buses ++ fleet_trips n city (stop_lines n) trams else [])
        by_test false e = All-nil (IsRight (length city))
        by_test true e =
            let two = leb-true 2 (length (stop_lines n)) e in
            All-append (IsRight (length city)) (fleet_trips n city (stop_lines n) buses) (fleet_trips n city (stop_lines n) trams)
            (fleet_right buses (omega arith) (omega arith) (omega arith) (omega arith) two (some two)) (fleet_right trams (omega arith) (omega arith) (omega arith) (omega arith) two (some two))

    pub trips_right : trips_fault 10 (length city) 0 (city_trips n city) ≡ None
    trips_right = faultless (length city) 0 (city_trips n city) rules_kept

    pub trips_few : length (city_trips n city) ≤ 54000
    trips_few = by_test (nat_le 2 (length (stop_lines n)))
      where
        by_test : (t : Bool) → length (if t then fleet_trips n city (stop_lines n) buses ++ fleet_trips n city (stop_lines n) trams else []) ≤ 54000
        by_test false = omega arith
        by_test true = omega (arith, length-append (fleet_trips n city (stop_lines n) buses) (fleet_trips n city (stop_lines n) trams), fleet_few buses, fleet_few trams)

    pub calls_few : calls_of (city_trips n city) ≤ 54000 * 300
    calls_few =
        let sum = sum_by-le (λ (trip : TripLists). length trip.calls) 300 (city_trips n city) (All-weaker (IsRight (length city)) (λ (trip : TripLists). length trip.calls ≤ 300) (λ trip right. right.short) (city_trips n city) rules_kept) in
        omega (arith, sum, trips_few)
