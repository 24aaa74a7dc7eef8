-- Each network has a spelling: each of its lines says what a line may say.
use Rattle.plan_base.proofs.Common.{◌≡◌, ℕ, List, [], ◌∷◌, ◌++◌, length, map, ◌<◌, ◌≤◌, ◌+◌, ◌^◌, true, arith, length-append, All, nat_le, slice_index_or, zip, AllByRecursion, flat_map, leb-true, All-head, All-map, All-tail, All-weaker, recursion_from_All, get_or-le-sum_by, pow-le-pow_right}
use Rattle.plain_texts.specs.{is_name}
use Rattle.plan_base.specs.{Place}
use Rattle.service_days.specs.{AreKept}
use Rattle.service_days.proofs.PlainDays.{first_year}
use Rattle.timetable_arcs.specs.{TripLists}
use Rattle.timetable_arcs.proofs.TripLemmas.{IsKeptTrip, both_true, known_stops, trip_well, trips_kept}
use Rattle.mode_network.specs.{Node, NodeKey, Road, Stop, Switch, IsNetwork, IsRoad, IsSwitch, NetworkLists.NetworkLists}
use Rattle.mode_network.proofs.RuleLemmas.{arcs_in_range, links_in_range, nodes_hold_roads}
use Rattle.region_file.specs.{FitCounts, counts_of, Line, FitsArc, FitsCall, FitsDays, FitsLine, IsRegion, key_line, node_line, region_lines, stop_line, trip_lines}
use Rattle.region_file.specs.declared.lines.Line.TheVariants as line

-- lines that are made of items that are such
each_fits : {X : Type 0} (f : X → Line) (P : X → Type 0) → ((x : X) → P x → FitsLine (f x)) → (xs : List X) → All P xs → AllByRecursion FitsLine (map f xs)
each_fits f P fits xs h = recursion_from_All FitsLine (map f xs) (All-map FitsLine f xs (All-weaker P (λ x. FitsLine (f x)) fits xs h))

pub both_fit : (xs ys : List Line) → AllByRecursion FitsLine xs → AllByRecursion FitsLine ys → AllByRecursion FitsLine (xs ++ ys)
both_fit [] ys before after = after
both_fit (x ∷ xs) ys before after = (before.0, both_fit xs ys before.1 after)

pub road_fits : (key : NodeKey) (place : Place) → IsRoad key → FitsLine (key_line key place)
road_fits (Road mode id) place h = h
road_fits (Stop stop) place h = absurd h
road_fits (Switch id) place h = absurd h

pub switch_fits : (key : NodeKey) (place : Place) → IsSwitch key → FitsLine (key_line key place)
switch_fits (Road mode id) place h = absurd h
switch_fits (Stop stop) place h = absurd h
switch_fits (Switch id) place h = h

stops_fit : (names : List (List ℕ)) (stops : List Node) → All (λ name. is_name name ≡ true) names → AllByRecursion FitsLine (map stop_line (zip names stops))
stops_fit [] [] h = tt
stops_fit [] (stop ∷ stops) h = tt
stops_fit (name ∷ names) [] h = tt
stops_fit (name ∷ names) (stop ∷ stops) h = (All-head (λ name. is_name name ≡ true) name names h, stops_fit names stops (All-tail (λ name. is_name name ≡ true) name names h))

days_fit : (n : NetworkLists) → AreKept n.days → FitsDays n.days
days_fit n h =
    let year = first_year n.days.first h.are.first_is in
    record { first = omega (arith, year.1); count = omega (arith, h.are.few); made = h.made }

-- a trip that keeps the rules, of few calls and with a name
record IsSpelled (days stops : ℕ) (trip : TripLists) : Type 0 where
  keeps : IsKeptTrip days stops trip
  few : length trip.calls < 2 ^ 32
  named : is_name trip.name ≡ true

trip_fits : (days stops : ℕ) (trip : TripLists) → days ≤ 128 → stops ≤ 2 ^ 24 → IsSpelled days stops trip → AllByRecursion FitsLine (trip_lines trip)
trip_fits days stops trip few_days few_stops h =
    let well = trip_well days stops trip h.keeps in
    let powers : 2 ^ days ≤ 2 ^ 128 = pow-le-pow_right (omega arith) few_days in
    let letter = both_true (nat_le 3 trip.letter) (nat_le trip.letter 13) (both_true _ _ (both_true _ _ (both_true _ _ h.keeps.is).0).0).0 in (
      record {
        from_tram = leb-true _ _ letter.0;
        to_other = omega (arith, leb-true _ _ letter.1);
        some_day = record { some = well.some_day; within = omega (arith, well.within, powers) };
        few = h.few;
        named = h.named;
      },
      each_fits line.Call FitsCall (λ call h. h) trip.calls (λ k d lt.
          let stop = known_stops stops trip h.keeps.known k d lt in
          let early = both_true (nat_le (slice_index_or trip.calls k d).arr 604799) (nat_le (slice_index_or trip.calls k d).dep 604799) (well.early k d lt) in
          record { stop = omega (arith, stop, few_stops); arr = omega (arith, leb-true _ _ early.0); dep = omega (arith, leb-true _ _ early.1) }),
    )

trips_fit : (days stops : ℕ) (trips : List TripLists) → days ≤ 128 → stops ≤ 2 ^ 24 → All (IsSpelled days stops) trips → AllByRecursion FitsLine (flat_map trip_lines trips)
trips_fit days stops [] few_days few_stops h = tt
trips_fit days stops (trip ∷ trips) few_days few_stops h =
    both_fit (trip_lines trip) (flat_map trip_lines trips)
    (trip_fits days stops trip few_days few_stops (All-head (IsSpelled days stops) trip trips h))
    (trips_fit days stops trips few_days few_stops (All-tail (IsSpelled days stops) trip trips h))

module _ (n : NetworkLists) (network : IsNetwork n) where
  arcs_fit : All FitsArc n.arcs
  arcs_fit k d lt =
      let ends = arcs_in_range n network k d lt in
      let few = nodes_hold_roads n network in
      record {
        from = omega (arith, ends.0, few, network.few_nodes);
        to = omega (arith, ends.1, few, network.few_nodes);
        some = network.parts.arcs_last k d lt;
        ms = network.arcs_fit k d lt;
      }

  links_fit : All FitsArc n.links
  links_fit k d lt =
      let ends = links_in_range n network k d lt in
      record {
        from = omega (arith, ends.0, network.few_nodes);
        to = omega (arith, ends.1, network.few_nodes);
        some = network.parts.links_last k d lt;
        ms = network.links_fit k d lt;
      }

  spelled_trips : AreKept n.days → All (IsSpelled (length n.days.bases) (length n.stops)) n.trips
  spelled_trips days k d lt = record {
    keeps = trips_kept (length n.days.bases) (length n.stops) 0 n.trips network.trips_fit.faultless k d lt;
    few = omega (arith, network.trips_fit.few_calls, get_or-le-sum_by (λ (trip : TripLists). length trip.calls) n.trips k d lt);
    named = network.trips_named k d lt;
  }

  -- A network of days that are kept has a spelling.
  pub is_region : AreKept n.days → IsRegion n
  unfolding region_lines
  is_region days =
      let few_days : length n.days.bases ≤ 128 = omega (arith, days.are.bases_long, days.are.few) in
      let few_stops : length n.stops ≤ 2 ^ 24 = omega (arith, network.few_nodes, length-append (n.roads ++ n.stops) n.switches, length-append n.roads n.stops) in
      let closing : AllByRecursion FitsLine (line.End ∷ []) = (tt, tt) in
      let fits : AllByRecursion FitsLine (map node_line n.roads ++ (map stop_line (zip n.stop_names n.stops) ++ (map node_line n.switches ++ (map line.Arc n.arcs ++ (map line.Link n.links ++ (flat_map trip_lines n.trips ++ line.End ∷ []))))))
      = both_fit (map node_line n.roads) _ (each_fits node_line (λ node. IsRoad node.key) (λ node h. road_fits node.key node.place h) n.roads network.parts.roads_are)
      (both_fit (map stop_line (zip n.stop_names n.stops)) _ (stops_fit n.stop_names n.stops network.names_are)
      (both_fit (map node_line n.switches) _ (each_fits node_line (λ node. IsSwitch node.key) (λ node h. switch_fits node.key node.place h) n.switches network.parts.switches_are)
      (both_fit (map line.Arc n.arcs) _ (each_fits line.Arc FitsArc (λ arc h. h) n.arcs arcs_fit)
      (both_fit (map line.Link n.links) _ (each_fits line.Link FitsArc (λ arc h. h) n.links links_fit)
      (both_fit (flat_map trip_lines n.trips) _ (trips_fit (length n.days.bases) (length n.stops) n.trips few_days few_stops (spelled_trips days)) closing))))) in
      record { parts = network.parts; fits = (days_fit n days, fits) }

  -- Its counts fit their fields, and so do those of the calls of its trips.
  pub counts_fit : FitCounts (counts_of n)
  counts_fit =
      let nodes : length (n.roads ++ n.stops ++ n.switches) ≡ length n.roads + length n.stops + length n.switches = omega (arith, length-append (n.roads ++ n.stops) n.switches, length-append n.roads n.stops) in
      record {
        roads = omega (arith, nodes, network.few_nodes);
        stops = omega (arith, nodes, network.few_nodes);
        switches = omega (arith, nodes, network.few_nodes);
        arcs = omega (arith, network.few_arcs);
        links = omega (arith, network.few_links);
        trips = omega (arith, network.trips_fit.few);
      }

  pub few_calls : All (λ (trip : TripLists). length trip.calls < 2 ^ 32) n.trips
  few_calls k d lt = omega (arith, network.trips_fit.few_calls, get_or-le-sum_by (λ (trip : TripLists). length trip.calls) n.trips k d lt)
