-- The sample city keeps the rules of networks, and is within the full limits.
use Rattle.plan_base.proofs.Common.{◌≡◌, ℕ, ◌+◌, ◌*◌, ◌<◌, ◌≤◌, ◌++◌, length, length-append, nat_lt, false, None, refl, sym, ap, ◌∙◌, arith, le-ltb, mul-le, none-some}
use Rattle.plan_base.specs.{cap_of, full_cap_of, Caps, Kind, Nodes, Stops, Arcs, Links, Trips, Calls}
use Rattle.timetable_arcs.specs.{calls_of}
use Rattle.mode_network.specs.{NetworkLists.NetworkLists, nodes_of, arcs_fault, count_fault, first_fault, first_unsorted, links_fault, name_cmp, node_cmp, trips_fault, NetFault, BadEnd, OutOfMemory, OutOfOrder, Table, TooMany}
use Rattle.sample_city.specs.{IsCityRefusal, IsSampleCity, stop_lines, city_trips}
use Rattle.sample_city.proofs.{ArcLaws.arcs_few, ArcLaws.arcs_right, CityLaws.stop_nodes_long, LinkLaws.links_few, LinkLaws.links_right, RoadLaws.roads_few, RoadLaws.roads_in_order, StopLaws.both_switches, StopLaws.names_in_order, StopLaws.some_stop, StopLaws.stops_few, TripLaws.calls_few, TripLaws.lines_within, TripLaws.trips_few, TripLaws.trips_right}

module _ (n : ℕ) (network : NetworkLists) (size : n ≤ 300) (is : IsSampleCity n network) where
  square : n * n ≤ 90000
  square = mul-le n n 300 300 size size

  stops_long : length network.stops ≡ length is.city
  stops_long = ap length is.stops ∙ stop_nodes_long 0 is.city

  all_nodes : length (nodes_of network) ≡ length network.roads + length is.city + 2
  all_nodes =
      let switches : length network.switches ≡ 2 = ap length is.switches ∙ (both_switches n size).two in
      omega (arith, length-append (network.roads ++ network.stops) network.switches, length-append network.roads network.stops, stops_long, switches)

  roads_long : length network.roads ≤ 270000
  roads_long = omega (arith, ap length is.roads, roads_few n, square)

  city_long : length is.city ≤ 90000
  city_long = omega (arith, stops_few n size is.city is.city_is, square)

  some : 2 ≤ length (stop_lines n) → 0 < length is.city
  some two = some_stop n is.city is.city_is (omega (arith, two, lines_within n))

  roads_kept : first_unsorted node_cmp 0 network.roads ≡ None
  roads_kept = ap (first_unsorted node_cmp 0) is.roads ∙ roads_in_order n

  names_kept : first_unsorted name_cmp 0 network.stop_names ≡ None
  names_kept = ap (first_unsorted name_cmp 0) is.names ∙ names_in_order n size is.city is.city_is is.ascend

  switches_kept : first_unsorted node_cmp 0 network.switches ≡ None
  switches_kept = ap (first_unsorted node_cmp 0) is.switches ∙ (both_switches n size).in_order

  arcs_kept : arcs_fault network ≡ None
  arcs_kept = arcs_right n network.roads network.arcs is.arcs

  links_kept : links_fault network ≡ None
  links_kept = links_right network.roads n is.city network.links is.links (length (nodes_of network)) all_nodes

  module _ (caps : Caps) (full : (kind : Kind) → cap_of caps kind ≡ full_cap_of kind) where
    counts_kept : count_fault caps network ≡ None
    counts_kept =
        let nodes : nat_lt caps.nodes (length (nodes_of network)) ≡ false = le-ltb caps.nodes (length (nodes_of network)) (omega (arith, full Nodes, all_nodes, roads_long, city_long)) in
        let stops : nat_lt caps.stops (length network.stops) ≡ false = le-ltb caps.stops (length network.stops) (omega (arith, full Stops, stops_long, city_long)) in
        let arcs : nat_lt caps.arcs (length network.arcs) ≡ false = le-ltb caps.arcs (length network.arcs) (omega (arith, full Arcs, arcs_few n network.roads network.arcs is.arcs, square)) in
        let links : nat_lt caps.links (length network.links) ≡ false = le-ltb caps.links (length network.links) (omega (arith, full Links, links_few network.roads n is.city network.links is.links, city_long)) in
        rw (nodes, stops, arcs, links) refl

    trips_kept : trips_fault caps network ≡ None
    trips_kept =
        let trips : nat_lt caps.trips (length (city_trips n is.city)) ≡ false = le-ltb caps.trips (length (city_trips n is.city)) (omega (arith, full Trips, trips_few n size is.city some)) in
        let calls : nat_lt caps.calls (calls_of (city_trips n is.city)) ≡ false = le-ltb caps.calls (calls_of (city_trips n is.city)) (omega (arith, full Calls, calls_few n size is.city some)) in
        rw (is.days, stops_long, is.trips, trips, calls) (trips_right n size is.city some)

    pub city_keeps : first_fault caps network ≡ None
    city_keeps = rw (counts_kept, roads_kept, names_kept, switches_kept, arcs_kept, links_kept, trips_kept) refl

-- so within the full limits there is no cause to refuse it
pub not_refused : (n : ℕ) (caps : Caps) (fault : NetFault) → n ≤ 300 → IsCityRefusal n caps fault → ((kind : Kind) → cap_of caps kind ≡ full_cap_of kind) → fault ≡ OutOfMemory
not_refused n caps OutOfMemory size refused full = refl
not_refused n caps (OutOfOrder kind row) size refused full = absurd (none-some (OutOfOrder kind row) (sym (city_keeps n refused.0 size refused.1 caps full) ∙ refused.2))
not_refused n caps (BadEnd kind row) size refused full = absurd (none-some (BadEnd kind row) (sym (city_keeps n refused.0 size refused.1 caps full) ∙ refused.2))
not_refused n caps (Table fault) size refused full = absurd (none-some (Table fault) (sym (city_keeps n refused.0 size refused.1 caps full) ∙ refused.2))
not_refused n caps (TooMany kind) size refused full = absurd (none-some (TooMany kind) (sym (city_keeps n refused.0 size refused.1 caps full) ∙ refused.2))
