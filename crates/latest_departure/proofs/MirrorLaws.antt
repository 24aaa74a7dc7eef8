-- A network in mirrored time is a lawful graph.
use Rattle.plan_base.proofs.Common.{◌≡◌, ℕ, ◌+◌, ◌-◌, ◌^◌, ◌<◌, ◌≤◌, List, length, Option, Some, None, refl, sym, ap, subst, arith, IfSome, option_map, All-contains}
use Rattle.search_laws.specs.{IsLetter, IsLawfulGraph, HasArc}
use Rattle.timetable_arcs.specs.{Instance, TableLists, pattern_trip, departs, no_call, IsTable}
use Rattle.timetable_arcs.proofs.{TripLemmas.known_stops, TableLemmas.trip_of_pattern}
use Rattle.mode_network.specs.{Arc, nodes_of, letter_at, IsNetwork, IsTimetableOf, NetworkLists.NetworkLists}
use Rattle.mode_network.proofs.RuleLemmas.{some_is, links_in_range, arcs_in_range, letter_is_road, nodes_hold_roads}
use Rattle.plain_graph.specs.{PlainArc, Road, Link, Stand, Ride, pattern_call, transit_letter, stops_in_range}
use Rattle.latest_departure.specs.{Source, arc_into, mirror_arc, run_by, begins, mirror_meaning, AreSources}
use Rattle.latest_departure.proofs.{OrderLemmas.no_later, ArcLemmas.IsInto, ArcLemmas.all_into, ArcLemmas.run_is_by, ArcLemmas.run_there, ArcLemmas.rides_on}

module _ (n : NetworkLists) (network : IsNetwork n) (t : TableLists) (table : IsTable t) (of : IsTimetableOf n t) where
  comes_from_node : (v : ℕ) (a : PlainArc) → v < length (nodes_of n) → IsInto n t v a → (mirror_arc n t v a).to < length (nodes_of n)
  comes_from_node v (Road arc) node (there, to) =
      let inside = (All-contains (λ (a : Arc). (a.from < length n.roads) × (a.to < length n.roads)) n.arcs arc (arcs_in_range n network) there).0 in
      omega (arith, nodes_hold_roads n)
  comes_from_node v (Link link) node (there, to) =
      (All-contains (λ (a : Arc). (a.from < length (nodes_of n)) × (a.to < length (nodes_of n))) n.links link (links_in_range n network) there).0
  comes_from_node v Stand node into = node
  comes_from_node v (Ride ride) node into =
      let alights = into.alights in let later = into.later in
      let known = known_stops t.stops (pattern_trip t ride.pattern) (trip_of_pattern t table ride.pattern alights.is_pattern).known in
      stops_in_range n network t table of (pattern_call t ride.pattern ride.board).stop
      (subst (λ stops. (pattern_call t ride.pattern ride.board).stop < stops) of.stops (known ride.board no_call (let w = alights.within in omega arith)))

  -- a node into which an arc leads is one
  pub node_into : (v : ℕ) (a : PlainArc) → IsInto n t v a → v < length (nodes_of n)
  node_into v (Road arc) (there, to) =
      let inside = (All-contains (λ (a : Arc). (a.from < length n.roads) × (a.to < length n.roads)) n.arcs arc (arcs_in_range n network) there).1 in
      omega (arith, nodes_hold_roads n)
  node_into v (Link link) (there, to) =
      let inside = (All-contains (λ (a : Arc). (a.from < length (nodes_of n)) × (a.to < length (nodes_of n))) n.links link (links_in_range n network) there).1 in omega arith
  node_into v Stand (mode, has) = let inside = (letter_is_road n network v mode has).0 in omega (arith, nodes_hold_roads n)
  node_into v (Ride ride) into =
      let alights = into.alights in
      let known = known_stops t.stops (pattern_trip t ride.pattern) (trip_of_pattern t table ride.pattern alights.is_pattern).known in
      subst (λ x. x < length (nodes_of n)) (sym alights.at)
      (stops_in_range n network t table of (pattern_call t ride.pattern ride.alight).stop
      (subst (λ stops. (pattern_call t ride.pattern ride.alight).stop < stops) of.stops (known ride.alight no_call alights.within)))

  mode_fits : (v : ℕ) (o : Option ℕ) → letter_at n.roads v ≡ o → IfSome o IsLetter
  mode_fits v None e = tt
  mode_fits v (Some mode) e = let low = (letter_is_road n network v mode e).1 in omega arith

  letter_fits : (v : ℕ) (a : PlainArc) → IsInto n t v a → IfSome (mirror_arc n t v a).letter IsLetter
  letter_fits v (Road arc) into = mode_fits v _ refl
  letter_fits v (Link link) into = tt
  letter_fits v Stand into = mode_fits v _ refl
  letter_fits v (Ride ride) into = transit_letter (length t.bases) t.stops (pattern_trip t ride.pattern) (trip_of_pattern t table ride.pattern into.alights.is_pattern)

  begins_soon : (deadline v s s2 : ℕ) → deadline < 2 ^ 57 → (a : PlainArc) → IsInto n t v a → begins t deadline s a ≡ Some s2 → (s ≤ s2) × (s2 ≤ s + 2 ^ 57)
  begins_soon deadline v s s2 small (Road arc) (there, to) e =
      let few = All-contains (λ (a : Arc). a.ms < 2 ^ 32) n.arcs arc network.arcs_fit there in let is = some_is e in (omega arith, omega arith)
  begins_soon deadline v s s2 small (Link link) (there, to) e =
      let few = All-contains (λ (a : Arc). a.ms < 2 ^ 32) n.links link network.links_fit there in let is = some_is e in (omega arith, omega arith)
  begins_soon deadline v s s2 small Stand into e = let is = some_is e in (omega arith, omega arith)
  begins_soon deadline v s s2 small (Ride ride) into e = on_run (run_by t deadline s ride) refl e
    where
      on_run : (o : Option Instance) → run_by t deadline s ride ≡ o → option_map (λ (run : Instance). deadline - departs t run ride.board) o ≡ Some s2 → (s ≤ s2) × (s2 ≤ s + 2 ^ 57)
      on_run None by none = cc
      on_run (Some run) by some =
          let known = run_is_by n network t table of deadline s ride into.alights.within run by in
          let on = rides_on t table ride into.later into.alights.within run known.is_in in
          let over = known.over in let early = known.early in let is = some_is some in
          (omega arith, omega arith)

  pub begins_rise : (deadline v r s a b : ℕ) (arc : PlainArc) → IsInto n t v arc → r ≤ s → begins t deadline r arc ≡ Some a → begins t deadline s arc ≡ Some b → a ≤ b
  begins_rise deadline v r s a b (Road arc) into le first second = let x = some_is first in let y = some_is second in omega arith
  begins_rise deadline v r s a b (Link link) into le first second = let x = some_is first in let y = some_is second in omega arith
  begins_rise deadline v r s a b Stand into le first second = let x = some_is first in let y = some_is second in omega arith
  begins_rise deadline v r s a b (Ride ride) into le first second = on_runs (run_by t deadline r ride) (run_by t deadline s ride) refl refl first second
    where
      on_runs : (o p : Option Instance) → run_by t deadline r ride ≡ o → run_by t deadline s ride ≡ p → option_map (λ (run : Instance). deadline - departs t run ride.board) o ≡ Some a
          → option_map (λ (run : Instance). deadline - departs t run ride.board) p ≡ Some b → a ≤ b
      on_runs None p e f first second = cc
      on_runs (Some one) None e f first second = cc
      on_runs (Some one) (Some two) e f first second =
          let within = into.alights.within in let later = into.later in
          let known = run_is_by n network t table of deadline r ride into.alights.within one e in
          let other = run_is_by n network t table of deadline s ride into.alights.within two f in
          let over = other.over in
          let order = no_later t table ride.pattern two one other.is_in known.is_in ride.alight into.alights.within (known.last two other.is_in (omega arith)) ride.board (omega arith) in
          let departs_by = order.departs in
          let x = some_is first in let y = some_is second in omega arith

  pub none_later : (deadline v r s : ℕ) (arc : PlainArc) → IsInto n t v arc → r ≤ s → begins t deadline r arc ≡ None → begins t deadline s arc ≡ None
  none_later deadline v r s (Road arc) into le none = cc
  none_later deadline v r s (Link link) into le none = cc
  none_later deadline v r s Stand into le none = cc
  none_later deadline v r s (Ride ride) into le none = on_run (run_by t deadline s ride) refl
    where
      Begins : Option Instance → Option ℕ
      Begins = option_map (λ (run : Instance). deadline - departs t run ride.board)

      on_run : (o : Option Instance) → run_by t deadline s ride ≡ o → Begins (run_by t deadline s ride) ≡ None
      on_run None e = ap Begins e
      on_run (Some two) e =
          let other = run_is_by n network t table of deadline s ride into.alights.within two e in
          let over = other.over in let early = other.early in
          let there = run_there n network t table of deadline r ride into.alights.within (omega arith) other.boards two other.is_in (omega arith) in
          let some = ap Begins there.1 in
          cc

  pub mirror_lawful : (rows : ℕ → List Source) → AreSources n t rows → (deadline : ℕ) → deadline < 2 ^ 57 → IsLawfulGraph (mirror_meaning n t rows deadline)
  mirror_lawful rows sources deadline small = record {
    few_nodes = (let few = network.few_nodes in omega arith);
    to_in_range = λ v i has. comes_from_node v (arc_into rows v i) has.node (into v i has);
    letter_in_range = λ v i has. letter_fits v (arc_into rows v i) (into v i has);
    not_before = λ v i s s2 has e. (begins_soon deadline v s s2 small (arc_into rows v i) (into v i has) e).0;
    not_late = λ v i s s2 has e. (begins_soon deadline v s s2 small (arc_into rows v i) (into v i has) e).1;
    rises = λ v i r s a b has le first second. begins_rise deadline v r s a b (arc_into rows v i) (into v i has) le first second;
    stays_none = λ v i r s has le none. none_later deadline v r s (arc_into rows v i) (into v i has) le none;
  }
    where
      into : (v i : ℕ) → HasArc (mirror_meaning n t rows deadline) v i → IsInto n t v (arc_into rows v i)
      into v i has = all_into n t rows sources v has.node i Stand has.arc
