-- The lists of networks that ascend are fixed by their elements, and networks by their lists.
use Rattle.plan_base.proofs.Common.{◌≡◌, ℕ, List, map, length, Option, Some, None, refl, ap, ◌∙◌, subst, option_map, position, not, IsPermutation, on_total}
use Rattle.plan_base.specs.{Caps, Kind, Nodes, Stops, Arcs, Links}
use Rattle.mode_network.specs.{NetFault, Table, nodes_of, AreInOrder, IsAscending, arc_cmp, arcs_fault, count_fault, end_or_order_fault, first_fault, first_unsorted, joins_layers, joins_modes, links_fault, lists_fault, name_cmp, node_cmp, or_else, trips_fault, unsorted_fault, Arc, NetworkLists.NetworkLists}
use Rattle.mode_network.proofs.RuleLemmas.{arcs_total, ascending_from, names_total}
use Rattle.promises.proofs.OrderLemmas.{ascending_permutation_once, ascends_by}

-- arcs that ascend stand in one order
pub arcs_once : (given xs ys : List Arc) → AreInOrder given xs → AreInOrder given ys → IsAscending arc_cmp xs → IsAscending arc_cmp ys → xs ≡ ys
arcs_once given xs ys one other up above = ascending_permutation_once arc_cmp arcs_total given xs ys one.same other.same up above

-- networks of the same lists are the same
pub same_network : (a b : NetworkLists) → a.days ≡ b.days → a.roads ≡ b.roads → a.stop_names ≡ b.stop_names → a.stops ≡ b.stops → a.switches ≡ b.switches
    → a.arcs ≡ b.arcs → a.links ≡ b.links → a.trips ≡ b.trips → a ≡ b
same_network a b days roads names stops switches arcs links trips =
    ap (λ x. record a { days = x }) days
    ∙ ap (λ x. record a { days = b.days; roads = x }) roads
    ∙ ap (λ x. record a { days = b.days; roads = b.roads; stop_names = x }) names
    ∙ ap (λ x. record a { days = b.days; roads = b.roads; stop_names = b.stop_names; stops = x }) stops
    ∙ ap (λ x. record b { switches = x; arcs = a.arcs; links = a.links; trips = a.trips }) switches
    ∙ ap (λ x. record b { arcs = x; links = a.links; trips = a.trips }) arcs
    ∙ ap (λ x. record b { links = x; trips = a.trips }) links
    ∙ ap (λ x. record b { trips = x }) trips

-- things that ascend by their names stand in one order
pub named_once : {X : Type 0} (given xs ys : List X) (name : X → List ℕ) (names also : List (List ℕ)) → IsPermutation given xs → IsPermutation given ys
    → names ≡ map name xs → also ≡ map name ys → IsAscending name_cmp names → IsAscending name_cmp also → xs ≡ ys
named_once given xs ys name names also one other is too up above =
    ascending_permutation_once (λ a b. name_cmp (name a) (name b)) (on_total name names_total) given xs ys one other
    (ascends_by name name_cmp xs (subst (IsAscending name_cmp) is up)) (ascends_by name name_cmp ys (subst (IsAscending name_cmp) too above))

-- ---- networks that break no rule

neither : (a b : Option NetFault) → or_else a b ≡ None → (a ≡ None) × (b ≡ None)
neither None b e = (refl, e)
neither (Some fault) b e = absurd (cc)

in_order : (kind : Kind) (bad unsorted : Option ℕ) → end_or_order_fault kind bad unsorted ≡ None → unsorted ≡ None
in_order kind None None e = refl
in_order kind (Some bad) None e = refl
in_order kind None (Some row) e = absurd (cc)
in_order kind (Some bad) (Some row) e = absurd (cc)

-- their arcs and their links ascend
pub ways_ascend : (caps : Caps) (n : NetworkLists) → first_fault caps n ≡ None → IsAscending arc_cmp n.arcs × IsAscending arc_cmp n.links
ways_ascend caps n none =
    let switches = unsorted_fault Nodes (first_unsorted node_cmp 0 n.switches) in
    let names = unsorted_fault Stops (first_unsorted name_cmp 0 n.stop_names) in
    let roads = unsorted_fault Nodes (first_unsorted node_cmp 0 n.roads) in
    let last = or_else (arcs_fault n) (links_fault n) in
    let lists = (neither (lists_fault caps n) (option_map Table (trips_fault caps n)) none).0 in
    let behind_counts = (neither (count_fault caps n) (or_else roads (or_else names (or_else switches last))) lists).1 in
    let behind_roads = (neither roads (or_else names (or_else switches last)) behind_counts).1 in
    let behind_names = (neither names (or_else switches last) behind_roads).1 in
    let behind_switches = (neither switches last behind_names).1 in
    let ways = neither (arcs_fault n) (links_fault n) behind_switches in (
      ascending_from arc_cmp arcs_total n.arcs 0 (in_order Arcs (position (λ arc. not (joins_modes n.roads arc)) n.arcs) (first_unsorted arc_cmp 0 n.arcs) ways.0),
      ascending_from arc_cmp arcs_total n.links 0 (in_order Links (position (λ link. not (joins_layers (length n.roads) (length (nodes_of n)) link)) n.links) (first_unsorted arc_cmp 0 n.links) ways.1),
    )
