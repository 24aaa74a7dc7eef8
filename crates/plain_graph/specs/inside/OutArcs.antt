-- The arcs out of a node are the network's own, and each has a place among them.
use Rattle.std.specs.Prelude.{◌≡◌, List, ℕ, ◌+◌, ◌-◌, ◌<◌, ◌≤◌, cond, length, nat_lt, nat_le, ◌&&◌, Bool, true, false, Option, Some, None, refl, slice_index_or, is_some, option_and_then, option_map}
use Rattle.std.proofs.Common.{◌∙◌, ap, subst, arith}
use Rattle.std.proofs.lemmas.Bool.{ltb-true, ltb-false, leb-true, le-leb, lt-ltb, le-ltb}
use Rattle.std.proofs.lemmas.Option.{slice_get-get_or, get_or_from_slice_get, slice_get_past}
use Rattle.timetable_arcs.specs.{Ride as RideCalls, TableLists, rides_at, IsRideAt, IsTable}
use Rattle.timetable_arcs.proofs.TableLemmas.{ride_fits, ride_there}
use Rattle.plan_base.specs.{number_of_mode}
use Rattle.mode_network.specs.{Node, Arc, mode_of, letter_at, stop_at, stop_node, IsNetwork, IsAscending, arc_cmp, range_from, NetworkLists.NetworkLists}
use Rattle.mode_network.proofs.{IndexLemmas.range_is_range, IndexLemmas.begins_in_range, IndexLemmas.in_range_of_begin, RuleLemmas.both, RuleLemmas.some_is}
use Rattle.plain_graph.specs.{declared.plain.PlainArc.PlainArc, declared.plain.PlainArc.TheVariants.Road, declared.plain.PlainArc.TheVariants.Link, declared.plain.PlainArc.TheVariants.Stand, declared.plain.PlainArc.TheVariants.Ride, PlainArcs.plain_arc, PlainArcs.count_from, PlainArcs.stands_at, PlainArcs.rides_from_stop, PlainArcs.rides_of, PlainArcs.arcs_at, PlainArcs.no_arc, PlainArcs.no_ride}

-- the arc stands at this place of the list, and begins at v
pub record IsArcFrom (arcs : List Arc) (v : ℕ) (arc : Arc) : Type 0 where
  pub place : ℕ
  pub within : place < length arcs
  pub is : slice_index_or arcs place no_arc ≡ arc
  pub begins : arc.from ≡ v

-- the ride begins at the stop that the node v is
pub record IsRideFrom (n : NetworkLists) (t : TableLists) (v : ℕ) (ride : RideCalls) : Type 0 where
  pub stop : ℕ
  pub is_stop : stop < length n.stops
  pub at : v ≡ stop_node n stop
  pub ride_at : IsRideAt t stop ride

abbrev pub IsOut : NetworkLists → TableLists → ℕ → PlainArc → Type 0
IsOut n t v (Road arc) = IsArcFrom n.arcs v arc
IsOut n t v (Link link) = IsArcFrom n.links v link
IsOut n t v Stand = (mode : ℕ) × (letter_at n.roads v ≡ Some mode)
IsOut n t v (Ride ride) = IsRideFrom n t v ride

-- what stop_at finds is the stop of that node number
pub stop_found : (n : NetworkLists) (v stop : ℕ) → stop_at n v ≡ Some stop → (stop < length n.stops) × (v ≡ stop_node n stop)
stop_found n v stop e = on_tests (nat_le (length n.roads) v && nat_lt (v - length n.roads) (length n.stops)) refl e
  where
    on_tests : (b : Bool) → nat_le (length n.roads) v && nat_lt (v - length n.roads) (length n.stops) ≡ b → cond b (Some (v - length n.roads)) None ≡ Some stop
        → (stop < length n.stops) × (v ≡ stop_node n stop)
    on_tests false h none = cc
    on_tests true h some =
        let (from, to) = both (nat_le (length n.roads) v) (nat_lt (v - length n.roads) (length n.stops)) h in
        let least = leb-true (length n.roads) v from in
        let most = ltb-true (v - length n.roads) (length n.stops) to in
        let same = some_is some in
        (omega (arith, same, most), omega (arith, same, least))

pub stop_is_found : (n : NetworkLists) (stop : ℕ) → stop < length n.stops → stop_at n (stop_node n stop) ≡ Some stop
stop_is_found n stop h =
    let from : nat_le (length n.roads) (stop_node n stop) ≡ true = le-leb (length n.roads) (length n.roads + stop) (omega arith) in
    let back : stop_node n stop - length n.roads ≡ stop = omega arith in
    rw (from, back, lt-ltb _ _ h) refl

-- no stop is a road node
pub no_mode : (n : NetworkLists) (stop : ℕ) → letter_at n.roads (stop_node n stop) ≡ None
no_mode n stop = ap (λ (node : Option Node). option_map number_of_mode (option_and_then (λ (node : Node). mode_of node.key) node)) (slice_get_past n.roads (length n.roads + stop) (omega arith))

module _ (n : NetworkLists) (network : IsNetwork n) (t : TableLists) (table : IsTable t) where
  listed : (arcs : List Arc) → IsAscending arc_cmp arcs → (v i : ℕ) → i < count_from arcs v → IsArcFrom arcs v (slice_index_or arcs ((range_from arcs v).0 + i) no_arc)
  listed arcs ascend v i h =
      let range = range_is_range arcs v in
      record {
        place = (range_from arcs v).0 + i;
        within = omega (arith, range.1);
        is = refl;
        begins = begins_in_range arcs ascend v _ no_arc (omega arith) (omega arith);
      }

  ride_listed : (v k : ℕ) (stop : Option ℕ) → stop_at n v ≡ stop → k < length (rides_from_stop t stop) → IsRideFrom n t v (slice_index_or (rides_from_stop t stop) k no_ride)
  ride_listed v k None e h = absurd (omega arith)
  ride_listed v k (Some stop) e h =
      let found = stop_found n v stop e in
      record {
        stop = stop;
        is_stop = found.0;
        at = found.1;
        ride_at = ride_fits t table stop k _ (slice_get-get_or (rides_at t stop) k no_ride h);
      }

  pub out_of : (v i : ℕ) → i < arcs_at n t v → IsOut n t v (plain_arc n t v i)
  out_of v i h = by_kind (nat_lt i (count_from n.arcs v)) refl (nat_lt (i - count_from n.arcs v) (count_from n.links v)) refl (letter_at n.roads v) refl
    where
      road : Arc
      road = slice_index_or n.arcs ((range_from n.arcs v).0 + i) no_arc

      link : Arc
      link = slice_index_or n.links ((range_from n.links v).0 + (i - count_from n.arcs v)) no_arc

      k : ℕ
      k = i - count_from n.arcs v - count_from n.links v

      by_kind : (s : Bool) → nat_lt i (count_from n.arcs v) ≡ s → (l : Bool) → nat_lt (i - count_from n.arcs v) (count_from n.links v) ≡ l
          → (r : Option ℕ) → letter_at n.roads v ≡ r → IsOut n t v (cond s (Road road) (cond l (Link link) (cond (is_some r) Stand (Ride (slice_index_or (rides_of n t v) k no_ride)))))
      by_kind true e l f r g = listed n.arcs network.arcs_ascend v i (ltb-true _ _ e)
      by_kind false e true f r g = listed n.links network.links_ascend v (i - count_from n.arcs v) (ltb-true _ _ f)
      by_kind false e false f (Some mode) g = (mode, g)
      by_kind false e false f None g =
          let none : stands_at n v ≡ 0 = ap (λ (o : Option ℕ). cond (is_some o) 1 0) g in
          let past_roads = ltb-false _ _ e in
          let past_links = ltb-false _ _ f in
          ride_listed v k (stop_at n v) refl (omega (arith, none, past_roads, past_links, h))

  -- a place of the arc among those out of v
  pub record HasPlace (v : ℕ) (a : PlainArc) : Type 0 where
    pub i : ℕ
    pub within : i < arcs_at n t v
    pub is : plain_arc n t v i ≡ a

  -- how far behind the first of its node the arc stands
  stands_in : (arcs : List Arc) → IsAscending arc_cmp arcs → (v : ℕ) (arc : Arc) → IsArcFrom arcs v arc
      → (i : ℕ) × (i < count_from arcs v) × (slice_index_or arcs ((range_from arcs v).0 + i) no_arc ≡ arc)
  stands_in arcs ascend v arc out =
      let at_v = ap (λ (a : Arc). a.from) out.is ∙ out.begins in
      let range = subst (λ w. ((range_from arcs w).0 ≤ out.place) × (out.place < (range_from arcs w).1)) at_v (in_range_of_begin arcs ascend out.place no_arc out.within) in
      let back : (range_from arcs v).0 + (out.place - (range_from arcs v).0) ≡ out.place = omega arith in
      (out.place - (range_from arcs v).0, omega arith, rw back out.is)

  pub place_of : (v : ℕ) (a : PlainArc) → IsOut n t v a → HasPlace v a
  place_of v (Road arc) out =
      let at = stands_in n.arcs network.arcs_ascend v arc out in
      let inside = lt-ltb _ _ at.1 in
      record { i = at.0; within = omega arith; is = rw inside (ap Road at.2) }
  place_of v (Link link) out =
      let at = stands_in n.links network.links_ascend v link out in
      let i = count_from n.arcs v + at.0 in
      let past = le-ltb i (count_from n.arcs v) (omega arith) in
      let back : i - count_from n.arcs v ≡ at.0 = omega arith in
      let inside = lt-ltb _ _ at.1 in
      record { i = i; within = omega arith; is = rw (past, back, inside) (ap Link at.2) }
  place_of v Stand out =
      let i = count_from n.arcs v + count_from n.links v in
      let one : stands_at n v ≡ 1 = ap (λ (o : Option ℕ). cond (is_some o) 1 0) out.1 in
      let some : is_some (letter_at n.roads v) ≡ true = ap is_some out.1 in
      let past_roads = le-ltb i (count_from n.arcs v) (omega arith) in
      let past_links = le-ltb (i - count_from n.arcs v) (count_from n.links v) (omega arith) in
      record { i = i; within = omega arith; is = rw (past_roads, past_links, some) refl }
  place_of v (Ride ride) out =
      let at = ride_there t table out.stop ride out.ride_at in
      let i = count_from n.arcs v + count_from n.links v + at.0 in
      let rides : rides_of n t v ≡ rides_at t out.stop = ap (rides_from_stop t) (ap (stop_at n) out.at ∙ stop_is_found n out.stop out.is_stop) in
      let none : is_some (letter_at n.roads v) ≡ false = ap is_some (ap (letter_at n.roads) out.at ∙ no_mode n out.stop) in
      let stands : stands_at n v ≡ 0 = rw none refl in
      let past_roads = le-ltb i (count_from n.arcs v) (omega arith) in
      let past_links = le-ltb (i - count_from n.arcs v) (count_from n.links v) (omega arith) in
      let back : i - count_from n.arcs v - count_from n.links v ≡ at.0 = omega arith in
      let count = ap length rides in
      record { i = i; within = omega (arith, count, stands, at.1); is = rw (past_roads, past_links, none, back, rides, get_or_from_slice_get (rides_at t out.stop) at.0 ride no_ride at.2) refl }
