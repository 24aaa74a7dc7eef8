use Rattle.plan_base.proofs.Common.{◌≡◌, ◌∙◌, length, None, ap, sym, subst, arith}
use Rattle.plan_base.specs.{Caps}
use Rattle.timetable_arcs.specs.{TableLists, IsTable, AreTrips}
use Rattle.mode_network.specs.{declared.parts.Parts.TheInside.Inside, NetworkLists.NetworkLists, nodes_of, IsNetwork, AreNamed, AreNames, AreParts, HaveDurations, lists_fault, IsTimetableOf}
use Rattle.mode_network.proofs.RuleLemmas.{network_of, links_in_range}
use Rattle.mode_network.proofs.network.Network.build.Goals as goal

-- the lists that the fields of the parts show
abbrev shown : Inside → NetworkLists
shown p = record {
  days = p.days;
  roads = p.roads.items;
  stop_names = p.stop_names.items;
  stops = p.stops.items;
  switches = p.switches.items;
  arcs = p.arcs.items;
  links = p.links.items;
  trips = p.trips.items;
}

timetable_of : (p : Inside) (t : TableLists) → t.bases ≡ p.days.bases → t.stops ≡ length p.stops.items → t.trips ≡ p.trips.items → IsTimetableOf (shown p) t
timetable_of p t bases stops trips = record { bases = bases; stops = stops; trips = trips }

-- faultless parts are those of a network
kept : (caps : Caps) (p : Inside) (n : NetworkLists) → shown p ≡ n → AreParts n → HaveDurations n.arcs → HaveDurations n.links
    → AreNames n.stop_names → AreNamed n.trips → lists_fault caps n ≡ None → (t : TableLists) → IsTimetableOf (shown p) t → IsTable t → IsNetwork (shown p)
kept caps p n is parts arcs_fit links_fit names named none t table keeps =
    let trips : AreTrips (length p.days.bases) (length p.stops.items) p.trips.items = rw (← table.bases, ← table.stops, ← table.trips) keeps.trips in
    subst IsNetwork (sym is) (network_of caps n parts arcs_fit links_fit names named none (subst (λ (m : NetworkLists). AreTrips (length m.days.bases) (length m.stops) m.trips) is trips))

pub build-requires-clause-arcs_ascend : goal.build-requires-clause-arcs_ascend
build-requires-clause-arcs_ascend c =
    let table = timetable_of c.parts.inside c.in_ok-timetable.timetable c.in_ok-timetable.ensures.bases (c.in_ok-timetable.ensures.stops ∙ (c.len.ensures ∙ c.parts.inside.stops.ok.0)) c.in_ok-timetable.ensures.trips in
    let network = kept c.args.caps.now c.parts.inside c.args.parts c.parts.view_is c.requires c.known.ensures.arcs c.known.ensures.links c.known.ensures.stops c.known.ensures.trips (sym c.lists_fault.ensures ∙ c.in_default.is) _ table c.in_ok-timetable.ensures.keeps in
    rw c.deref-2.ensures.value network.arcs_ascend

pub build-requires-clause-few_links : goal.build-requires-clause-few_links
build-requires-clause-few_links c =
    let table = timetable_of c.parts.inside c.in_ok-timetable.timetable c.in_ok-timetable.ensures.bases (c.in_ok-timetable.ensures.stops ∙ (c.len.ensures ∙ c.parts.inside.stops.ok.0)) c.in_ok-timetable.ensures.trips in
    let network = kept c.args.caps.now c.parts.inside c.args.parts c.parts.view_is c.requires c.known.ensures.arcs c.known.ensures.links c.known.ensures.stops c.known.ensures.trips (sym c.lists_fault.ensures ∙ c.in_default.is) _ table c.in_ok-timetable.ensures.keeps in
    let few = network.few_links in rw c.deref-3.ensures.value (omega (arith, few))

pub build-requires-clause-links_ascend : goal.build-requires-clause-links_ascend
build-requires-clause-links_ascend c =
    let table = timetable_of c.parts.inside c.in_ok-timetable.timetable c.in_ok-timetable.ensures.bases (c.in_ok-timetable.ensures.stops ∙ (c.len.ensures ∙ c.parts.inside.stops.ok.0)) c.in_ok-timetable.ensures.trips in
    let network = kept c.args.caps.now c.parts.inside c.args.parts c.parts.view_is c.requires c.known.ensures.arcs c.known.ensures.links c.known.ensures.stops c.known.ensures.trips (sym c.lists_fault.ensures ∙ c.in_default.is) _ table c.in_ok-timetable.ensures.keeps in
    rw c.deref-3.ensures.value network.links_ascend

pub build-requires-clause-in_range : goal.build-requires-clause-in_range
build-requires-clause-in_range c =
    let table = timetable_of c.parts.inside c.in_ok-timetable.timetable c.in_ok-timetable.ensures.bases (c.in_ok-timetable.ensures.stops ∙ (c.len.ensures ∙ c.parts.inside.stops.ok.0)) c.in_ok-timetable.ensures.trips in
    let network = kept c.args.caps.now c.parts.inside c.args.parts c.parts.view_is c.requires c.known.ensures.arcs c.known.ensures.links c.known.ensures.stops c.known.ensures.trips (sym c.lists_fault.ensures ∙ c.in_default.is) _ table c.in_ok-timetable.ensures.keeps in
    let count = c.node_count-nodes.ensures ∙ ap (λ n. length (nodes_of n)) (sym c.parts.view_is) in
    rw (count, c.deref-3.ensures.value) (links_in_range (shown c.parts.inside) network)

pub build-requires-clause-few_nodes : goal.build-requires-clause-few_nodes
build-requires-clause-few_nodes c =
    let table = timetable_of c.parts.inside c.in_ok-timetable.timetable c.in_ok-timetable.ensures.bases (c.in_ok-timetable.ensures.stops ∙ (c.len.ensures ∙ c.parts.inside.stops.ok.0)) c.in_ok-timetable.ensures.trips in
    let network = kept c.args.caps.now c.parts.inside c.args.parts c.parts.view_is c.requires c.known.ensures.arcs c.known.ensures.links c.known.ensures.stops c.known.ensures.trips (sym c.lists_fault.ensures ∙ c.in_default.is) _ table c.in_ok-timetable.ensures.keeps in
    let count = c.node_count-nodes.ensures ∙ ap (λ n. length (nodes_of n)) (sym c.parts.view_is) in
    omega (arith, count, network.few_nodes)

pub invariant_of-result : goal.invariant_of-result
invariant_of-result c =
    let table = timetable_of c.parts.inside c.in_ok-timetable.timetable c.in_ok-timetable.ensures.bases (c.in_ok-timetable.ensures.stops ∙ (c.len.ensures ∙ c.parts.inside.stops.ok.0)) c.in_ok-timetable.ensures.trips in
    let network = kept c.args.caps.now c.parts.inside c.args.parts c.parts.view_is c.requires c.known.ensures.arcs c.known.ensures.links c.known.ensures.stops c.known.ensures.trips (sym c.lists_fault.ensures ∙ c.in_default.is) _ table c.in_ok-timetable.ensures.keeps in
    let count = c.node_count-nodes.ensures ∙ ap (λ n. length (nodes_of n)) (sym c.parts.view_is) in
    record {
      rules = subst (λ trips. IsNetwork (record (shown c.parts.inside) { trips = trips })) (sym c.in_ok-timetable.ensures.trips) network;
      timetable = subst (λ trips. IsTimetableOf (record (shown c.parts.inside) { trips = trips }) c.in_ok-timetable.timetable) (sym c.in_ok-timetable.ensures.trips) table;
      indexes = record {
        rows = rw (← count, ← c.deref.ensures.value, ← c.deref-2.ensures.value, ← c.deref-3.ensures.value) c.in_ok-tables.ensures.rows;
        ends = rw (← count, ← c.deref-3.ensures.value) c.in_ok-tables.ensures.ends;
      };
      legs = rw (← c.deref-2.ensures.value) c.in_ok-tables.ensures.legs;
      grid = rw (← c.deref.ensures.value) c.in_ok-tables.ensures.grid;
    }
