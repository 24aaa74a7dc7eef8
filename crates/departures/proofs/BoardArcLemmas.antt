-- The arcs of a stop from a ride on are the rides from the same board.
use Rattle.plan_base.proofs.Common.{◌≡◌, ℕ, suc, ◌+◌, ◌-◌, ◌<◌, ◌≤◌, ◌∙◌, ◌++◌, ◌&&◌, true, false, cond, nat_lt, List, [], ◌∷◌, length, drop, Option, Some, None, inl, inr, refl, sym, ap, subst, arith, slice_index_or, is_some, Ok, Err, IfOk, OnOk, lt-ltb, le-ltb, cases_lt, get_or-take, length-take}
use Rattle.std.specs.declared.result.Result.{Result}
use Rattle.search_laws.specs.{is_open, open_way, way_at, ways_from, Way}
use Rattle.timetable_arcs.specs.{Ride as RideCalls, TableLists, pattern_trip, rides_at, alights, IsTable}
use Rattle.mode_network.specs.{Arc, letter_at, stop_at, IsNetwork, range_from, NetworkLists.NetworkLists}
use Rattle.plain_graph.specs.{PlainArc, Road, Link, Ride, plain_arc, graph_arc, count_from, arcs_at, stands_at, rides_of, rides_from_stop, no_arc, no_ride, pattern_call, inside.IsOut, inside.IsRideFrom, inside.out_of, inside.stop_is_found, inside.no_mode}
use Rattle.plain_graph.proofs.PlaceTies.{road_at}
use Rattle.departures.specs.{FastestCall, least_arrival, least_meaning, inside.ride_to, inside.least_way, inside.least_ways, inside.ends_from, inside.AddsAlike}
use Rattle.departures.proofs.BoardLemmas.{ride_behind, one_end}

module _ (n : NetworkLists) (t : TableLists) (v : ℕ) where
  -- the arcs from a place on are the rides from where this one begins to each of these calls
  abbrev AreRides : RideCalls → ℕ → List ℕ → Type 0
  AreRides ride place alights = (j : ℕ) → j < length alights → plain_arc n t v (place + j) ≡ Ride (ride_to ride (slice_index_or alights j 0))

  -- so they are the ways at their places
  module _ (runs : List (List FastestCall)) (time letters : ℕ) (ride : RideCalls) (opens : is_open letters (Some (pattern_trip t ride.pattern).letter) ≡ true) where
    ways_are : (place : ℕ) (alights : List ℕ) → AreRides ride place alights
        → ways_from (least_meaning n t runs) v time letters place (length alights) ≡ least_ways n t runs time ride place alights
    ways_are place [] are = refl
    ways_are place (alight ∷ alights) are =
        let same : place ≡ place + 0 = omega arith in
        let first : plain_arc n t v place ≡ Ride (ride_to ride alight) = ap (plain_arc n t v) same ∙ are 0 (omega arith) in
        let known : way_at (least_meaning n t runs) v time letters place ≡ open_way letters place (graph_arc n t v (Ride (ride_to ride alight))) (least_arrival runs time (Ride (ride_to ride alight))) =
        ap (λ (a : PlainArc). open_way letters place (graph_arc n t v a) (least_arrival runs time a)) first in
        let way : way_at (least_meaning n t runs) v time letters place ≡ least_way n t runs time place (ride_to ride alight) ∷ [] = known ∙ rw opens refl in
        ap (λ (ws : List Way). ws ++ ways_from (least_meaning n t runs) v time letters (place + 1) (length alights)) way
        ∙ ap (λ (ws : List Way). least_way n t runs time place (ride_to ride alight) ∷ ws)
        (ways_are (place + 1) alights (λ j lt. let next : place + 1 + j ≡ place + suc j = omega arith in ap (plain_arc n t v) next ∙ are (suc j) (omega (arith, lt))))

  abbrev outer : ℕ
  outer = count_from n.arcs v + count_from n.links v

  -- a ride is neither a road arc nor a link
  past_outer : (place : ℕ) (ride : RideCalls) → plain_arc n t v place ≡ Ride ride → outer ≤ place
  past_outer place ride is = elim (cases_lt place (count_from n.arcs v)) [
    | inl road ↦ (let at = road_at n t v place road in absurd (no_road (sym at ∙ is)))
    | inr past ↦ (elim (cases_lt (place - count_from n.arcs v) (count_from n.links v)) [
      | inl link ↦ (
          let behind = le-ltb place (count_from n.arcs v) past in
          let inside = lt-ltb (place - count_from n.arcs v) (count_from n.links v) link in
          let at : plain_arc n t v place ≡ Link (slice_index_or n.links ((range_from n.links v).0 + (place - count_from n.arcs v)) no_arc) = rw (behind, inside) refl in
          absurd (no_link (sym at ∙ is)))
      | inr behind ↦ omega (arith, past, behind)
    ])
  ]
    where
      no_road : {arc : Arc} → Road arc ≡ Ride ride → ⊥
      no_road e = cc

      no_link : {arc : Arc} → Link arc ≡ Ride ride → ⊥
      no_link e = cc

  -- behind a ride stand those from the same board to the later calls
  module _ (network : IsNetwork n) (table : IsTable t) (place : ℕ) (ride : RideCalls) (within : place < arcs_at n t v) (is : plain_arc n t v place ≡ Ride ride) where
    out : IsRideFrom n t v ride
    out = subst (IsOut n t v) is (out_of n network t table v place within)

    found : stop_at n v ≡ Some out.stop
    found = ap (stop_at n) out.at ∙ stop_is_found n out.stop out.is_stop

    no_road_here : letter_at n.roads v ≡ None
    no_road_here = ap (letter_at n.roads) out.at ∙ no_mode n out.stop

    arc_at : (k : ℕ) → plain_arc n t v (outer + k) ≡ Ride (slice_index_or (rides_at t out.stop) k no_ride)
    arc_at k =
        let rides : rides_of n t v ≡ rides_at t out.stop = ap (rides_from_stop t) found in
        let none : is_some (letter_at n.roads v) ≡ false = ap is_some no_road_here in
        let past_roads = le-ltb (outer + k) (count_from n.arcs v) (omega arith) in
        let past_links = le-ltb (outer + k - count_from n.arcs v) (count_from n.links v) (omega arith) in
        let back : outer + k - count_from n.arcs v - count_from n.links v ≡ k = omega arith in
        rw (past_roads, past_links, none, back, rides) refl

    here : outer + (place - outer) ≡ place
    here = let past = past_outer place ride is in omega (arith, past)

    same_ride : {a b : RideCalls} → Ride a ≡ Ride b → a ≡ b
    same_ride e = cc

    ride_here : slice_index_or (rides_at t out.stop) (place - outer) no_ride ≡ ride
    ride_here = same_ride (sym (arc_at (place - outer)) ∙ ap (plain_arc n t v) here ∙ is)

    inside : place - outer < length (rides_at t out.stop)
    inside =
        let past = past_outer place ride is in
        let stands : stands_at n v ≡ 0 = ap (λ (o : Option ℕ). cond (is_some o) 1 0) no_road_here in
        let count : length (rides_of n t v) ≡ length (rides_at t out.stop) = ap (λ (o : Option ℕ). length (rides_from_stop t o)) found in
        omega (arith, past, within, stands, count)

    abbrev all_ends : List ℕ
    all_ends = alights ride.alight (drop ride.alight (pattern_trip t ride.pattern).calls)

    are_rides : AreRides ride place all_ends
    are_rides j lt =
        let at : outer + (place - outer + j) ≡ place + j = omega (arith, here) in
        sym (ap (plain_arc n t v) at) ∙ arc_at (place - outer + j) ∙ ap Ride (ride_behind t out.stop (place - outer) ride inside ride_here j lt)

    -- some of them
    module _ (past : ℕ) (some : place < past) where
      abbrev some_ends : List ℕ
      some_ends = ends_from t ride.pattern ride.alight (past - place)

      are_some : AreRides ride place some_ends
      are_some j lt =
          let counts = length-take (past - place) all_ends in
          are_rides j (omega (arith, lt, counts)) ∙ ap (λ (a : ℕ). Ride (ride_to ride a)) (sym (get_or-take (past - place) all_ends j 0 (omega (arith, lt, counts))))

      pub count_within : place + length some_ends ≤ past
      count_within = let counts = length-take (past - place) all_ends in omega (arith, counts, some)

      pub one_at_least : place < place + length some_ends
      one_at_least =
          let both : ((pattern_call t ride.pattern ride.alight).alight && nat_lt place past) ≡ true = rw (out.ride_at.alights, lt-ltb place past some) refl in
          let more = one_end t ride.pattern ride.alight place past true out.ride_at.within both in
          omega (arith, ap length more)

      pub adds_rides : (runs : List (List FastestCall)) (time next : ℕ) (before after : List Way) → next ≡ place + length some_ends
          → after ≡ before ++ least_ways n t runs time ride place some_ends → AddsAlike (least_meaning n t runs) v time place next before after
      adds_rides runs time next before after is_next adds letters opens =
          let count : next - place ≡ length some_ends = omega (arith, is_next) in
          let letter : is_open letters (Some (pattern_trip t ride.pattern).letter) ≡ true = sym (ap (λ (a : PlainArc). is_open letters (graph_arc n t v a).letter) is) ∙ opens in
          adds ∙ ap (λ (ws : List Way). before ++ ws) (sym (ways_are runs time letters ride letter place some_ends are_some))
          ∙ ap (λ (m : ℕ). before ++ ways_from (least_meaning n t runs) v time letters place m) (sym count)

-- what holds of a success and what holds where there is one
pub if_both : {T E : Type 0} (r : Result T E) (P : T → Type 0) (Q : Type 0) (R : T → Type 0) → ((x : T) → P x → Q → R x) → IfOk r P → OnOk r Q → IfOk r R
if_both (Ok x) P Q R f p q = f x p q
if_both (Err y) P Q R f p q = tt
