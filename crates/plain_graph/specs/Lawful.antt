-- A network is a lawful graph.
use Rattle.std.specs.Prelude.{◌≡◌, ℕ, ◌+◌, ◌^◌, ◌<◌, ◌≤◌, ◌++◌, ◌&&◌, nat_le, nat_lt, length, Option, Some, None, refl, IfSome, option_map}
use Rattle.std.proofs.Common.{length-append, ◌∙◌, ap, sym, subst, arith}
use Rattle.std.proofs.Props.{props}
use Rattle.std.specs.List.{list_all}
use Rattle.std.proofs.lemmas.Bool.{leb-true}
use Rattle.search_laws.specs.{IsLetter, GraphMeaning, IsLawfulGraph}
use Rattle.timetable_arcs.specs.{Instance, Ride as RideCalls, TableLists, arrives, pattern_trip, no_call, TripLists, is_early, IsRideAt, IsTable}
use Rattle.timetable_arcs.proofs.{TripLemmas.IsKeptTrip, TripLemmas.known_stops, TableLemmas.arrives_small, TableLemmas.next_rises, TableLemmas.next_stays, TableLemmas.trip_of_pattern}
use Rattle.mode_network.specs.{Arc, nodes_of, letter_at, IsNetwork, IsTimetableOf, NetworkLists.NetworkLists}
use Rattle.mode_network.proofs.RuleLemmas.{both, some_is, links_in_range, arcs_in_range, letter_is_road, nodes_hold_roads}
use Rattle.plain_graph.specs.{declared.plain.PlainArc.PlainArc, declared.plain.PlainArc.TheVariants.Road, declared.plain.PlainArc.TheVariants.Link, declared.plain.PlainArc.TheVariants.Stand, declared.plain.PlainArc.TheVariants.Ride, PlainArcs.pattern_call, PlainArcs.plain_arc, PlainArcs.plain_meaning, PlainArcs.graph_arc, PlainArcs.run_at, PlainArcs.arrival, PlainArcs.no_arc, inside.OutArcs.IsOut, inside.OutArcs.out_of, Rides.alights_within, Rides.rides_on, Rides.takes}

-- there is one proof at most that a graph is lawful
pub IsLawfulGraph-prop : (g : GraphMeaning) → IsProp (IsLawfulGraph g)
IsLawfulGraph-prop g = hlevel props

pub transit_letter : (days stops : ℕ) (trip : TripLists) → IsKeptTrip days stops trip → IsLetter trip.letter
transit_letter days stops trip kept =
    let letter = nat_le 3 trip.letter && nat_le trip.letter 13 in
    let calls = letter && nat_le 2 (length trip.calls) in
    let with_days = calls && (nat_lt 0 trip.days.0 && nat_lt trip.days.0 (2 ^ days)) in
    let is = (both calls _ (both with_days (list_all is_early trip.calls) kept.is).0).0 in
    let most = (both (nat_le 3 trip.letter) (nat_le trip.letter 13) (both letter (nat_le 2 (length trip.calls)) is).0).1 in
    omega (arith, leb-true trip.letter 13 most)

module _ (n : NetworkLists) (network : IsNetwork n) (t : TableLists) (table : IsTable t) (of : IsTimetableOf n t) where
  -- the stops are nodes
  pub stops_in_range : (stop : ℕ) → stop < length n.stops → length n.roads + stop < length (nodes_of n)
  stops_in_range stop h = omega (arith, length-append (n.roads ++ n.stops) n.switches, length-append n.roads n.stops)

  -- a ride ends at a stop
  pub alights_at_stop : (stop : ℕ) (ride : RideCalls) → IsRideAt t stop ride → (pattern_call t ride.pattern ride.alight).stop < length n.stops
  alights_at_stop stop ride is =
      let known = known_stops t.stops (pattern_trip t ride.pattern) (trip_of_pattern t table ride.pattern is.pattern).known in
      subst (λ stops. (pattern_call t ride.pattern ride.alight).stop < stops) of.stops (known ride.alight no_call is.within)

  -- a node from which an arc leads is one
  pub node_of : (v : ℕ) (a : PlainArc) → IsOut n t v a → v < length (nodes_of n)
  node_of v (Road arc) out =
      let inside = subst (λ x. x < length n.roads) (ap (λ (a : Arc). a.from) out.is ∙ out.begins) (arcs_in_range n network out.place no_arc out.within).0 in
      omega (arith, nodes_hold_roads n)
  node_of v (Link link) out = subst (λ x. x < length (nodes_of n)) (ap (λ (a : Arc). a.from) out.is ∙ out.begins) (links_in_range n network out.place no_arc out.within).0
  node_of v Stand out = let inside = (letter_is_road n network v out.0 out.1).0 in omega (arith, nodes_hold_roads n)
  node_of v (Ride ride) out = subst (λ x. x < length (nodes_of n)) (sym out.at) (stops_in_range out.stop out.is_stop)

  leads_in_range : (v : ℕ) (a : PlainArc) → IsOut n t v a → (graph_arc n t v a).to < length (nodes_of n)
  leads_in_range v (Road arc) out =
      let inside = subst (λ (a : Arc). a.to < length n.roads) out.is (arcs_in_range n network out.place no_arc out.within).1 in
      omega (arith, nodes_hold_roads n)
  leads_in_range v (Link link) out = subst (λ (a : Arc). a.to < length (nodes_of n)) out.is (links_in_range n network out.place no_arc out.within).1
  leads_in_range v Stand out = node_of v Stand out
  leads_in_range v (Ride ride) out = stops_in_range (pattern_call t ride.pattern ride.alight).stop (alights_at_stop out.stop ride out.ride_at)

  mode_fits : (v : ℕ) (o : Option ℕ) → letter_at n.roads v ≡ o → IfSome o IsLetter
  mode_fits v None e = tt
  mode_fits v (Some mode) e = let low = letter_is_road n network v mode e in omega (arith, low.1)

  letter_fits : (v : ℕ) (a : PlainArc) → IsOut n t v a → IfSome (graph_arc n t v a).letter IsLetter
  letter_fits v (Road arc) out = mode_fits v _ refl
  letter_fits v (Link link) out = tt
  letter_fits v Stand out = mode_fits v _ refl
  letter_fits v (Ride ride) out = transit_letter (length t.bases) t.stops (pattern_trip t ride.pattern) (trip_of_pattern t table ride.pattern out.ride_at.pattern)

  ride_soon : (v time at : ℕ) (ride : RideCalls) → IsRideAt t v ride → (run : Option Instance) → run_at t time ride ≡ run → option_map (λ r. arrives t r ride.alight) run ≡ Some at
      → (time ≤ at) × (at ≤ time + 2 ^ 57)
  ride_soon v time at ride is None e none = cc
  ride_soon v time at ride is (Some run) e some =
      let (is_in, in_time) = takes t table v ride is time run e in
      let on = rides_on t table v ride is run is_in in
      let small = arrives_small t table ride.pattern ride.alight run is_in (alights_within t table v ride is run is_in) in
      let same = some_is some in
      (omega (arith, in_time, on, same), omega (arith, small, same))

  arrives_soon : (v time at : ℕ) (a : PlainArc) → IsOut n t v a → arrival t time a ≡ Some at → (time ≤ at) × (at ≤ time + 2 ^ 57)
  arrives_soon v time at (Road arc) out e =
      let fits = subst (λ (a : Arc). a.ms < 2 ^ 32) out.is (network.arcs_fit out.place no_arc out.within) in
      let same = some_is e in
      (omega arith, omega arith)
  arrives_soon v time at (Link link) out e =
      let fits = subst (λ (a : Arc). a.ms < 2 ^ 32) out.is (network.links_fit out.place no_arc out.within) in
      let same = some_is e in
      (omega arith, omega arith)
  arrives_soon v time at Stand out e = let same = some_is e in (omega arith, omega arith)
  arrives_soon v time at (Ride ride) out e = ride_soon out.stop time at ride out.ride_at (run_at t time ride) refl e

  ride_later : (stop s time a b : ℕ) (ride : RideCalls) → IsRideAt t stop ride → s ≤ time → (first second : Option Instance) → run_at t s ride ≡ first → run_at t time ride ≡ second
      → option_map (λ r. arrives t r ride.alight) first ≡ Some a → option_map (λ r. arrives t r ride.alight) second ≡ Some b → a ≤ b
  ride_later stop s time a b ride is h None second e f g k = cc
  ride_later stop s time a b ride is h (Some x) None e f g k = cc
  ride_later stop s time a b ride is h (Some x) (Some y) e f g k =
      let within = is.within in
      let later = next_rises t table ride.pattern ride.board s time x y (omega (arith, is.later, within)) h e f ride.alight within in
      omega (arith, some_is g, some_is k, later)

  later_later : (v s time a b : ℕ) (arc : PlainArc) → IsOut n t v arc → s ≤ time → arrival t s arc ≡ Some a → arrival t time arc ≡ Some b → a ≤ b
  later_later v s time a b (Road arc) out h e f = omega (arith, some_is e, some_is f)
  later_later v s time a b (Link link) out h e f = omega (arith, some_is e, some_is f)
  later_later v s time a b Stand out h e f = omega (arith, some_is e, some_is f)
  later_later v s time a b (Ride ride) out h e f = ride_later out.stop s time a b ride out.ride_at h (run_at t s ride) (run_at t time ride) refl refl e f

  none_of : {X Y : Type 0} (f : X → Y) (o : Option X) → option_map f o ≡ None → o ≡ None
  none_of f None e = refl
  none_of f (Some x) e = cc

  never_later : (v s time : ℕ) (arc : PlainArc) → s ≤ time → arrival t s arc ≡ None → arrival t time arc ≡ None
  never_later v s time (Road arc) h e = cc
  never_later v s time (Link link) h e = cc
  never_later v s time Stand h e = cc
  never_later v s time (Ride ride) h e =
      ap (option_map (λ r. arrives t r ride.alight)) (next_stays t table ride.pattern ride.board s time h (none_of (λ r. arrives t r ride.alight) (run_at t s ride) e))

  pub plain_lawful : IsLawfulGraph (plain_meaning n t)
  plain_lawful = record {
    few_nodes = omega (arith, network.few_nodes);
    to_in_range = λ v i has. leads_in_range v (plain_arc n t v i) (out_of n network t table v i has.arc);
    letter_in_range = λ v i has. letter_fits v (plain_arc n t v i) (out_of n network t table v i has.arc);
    not_before = λ v i time u has e. (arrives_soon v time u (plain_arc n t v i) (out_of n network t table v i has.arc) e).0;
    not_late = λ v i time u has e. (arrives_soon v time u (plain_arc n t v i) (out_of n network t table v i has.arc) e).1;
    rises = λ v i s time a b has h e f. later_later v s time a b (plain_arc n t v i) (out_of n network t table v i has.arc) h e f;
    stays_none = λ v i s time has h e. never_later v s time (plain_arc n t v i) h e;
  }
