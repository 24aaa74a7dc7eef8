-- The names of stops ascend, and so do the ids of switches.
use Rattle.plan_base.proofs.Common.{◌≡◌, ℕ, ◌+◌, ◌≤◌, List, [], ◌∷◌, ◌++◌, map, Bool, true, false, None, Some, if◌then◌else◌, refl, sym, ◌∙◌, arith, bytes_eq, count_by, option_to_list, int_cmp_total, int_eq_equiv, AllByRecursion, flat_map, int_cmp, is_lt, nat_cmp, ordering_then, Ordering, Less, Equal, Greater, false_from_ne_true, false≢true, nat_list_cmp_total, on_total, is_eq-slice_cmp, bytes_eq-Decides}
use Rattle.std.specs.List.{IsDistinct}
use Rattle.plain_texts.specs.{escaped}
use Rattle.plain_texts.proofs.EscapeLaws.{escaped_of_one}
use Rattle.opl_reader.specs.{AreObjects, OsmNode, ObjectLists.ObjectLists}
use Rattle.gtfs_tables.specs.{StopRow}
use Rattle.mode_network.specs.{first_unsorted, name_cmp, node_cmp}
use Rattle.region_build.specs.{AreEntries, entries_from, AreSwitches, is_switch, switch_at, switch_node, StopEntry}
use Rattle.region_build.proofs.OrderLaws.{None_of, Once, count-cons, none_cons, once_cons, once_distinct, once_nil, once_permutation, rises_from_sorted, rises_map, rises_sorted, same_key}

-- ---- stops

abbrev entry_cmp : StopEntry → StopEntry → Ordering
entry_cmp a b = name_cmp a.name b.name

same_name : (a b : StopEntry) → same_key entry_cmp a b ≡ true → a.name ≡ b.name
same_name a b e = (bytes_eq-Decides a.name b.name).0 (sym (is_eq-slice_cmp a.name b.name) ∙ e)

-- names of distinct ids are distinct
none_named : (k : ℕ) (q : StopEntry) (id : List ℕ) (stops : List StopRow) → q.name ≡ escaped id → AllByRecursion (λ other. bytes_eq id other ≡ false) (map (λ (stop : StopRow). stop.id) stops)
    → None_of (same_key entry_cmp) q (entries_from k stops)
none_named k q id [] is all = refl
none_named k q id (stop ∷ stops) is all =
    let entry : StopEntry = record { name = escaped stop.id; stop = k; place = stop.place } in
    none_cons (same_key entry_cmp) q entry (entries_from (k + 1) stops)
    (false_from_ne_true (same_key entry_cmp q entry) (λ e.
    let one : id ≡ stop.id = escaped_of_one id stop.id (sym is ∙ same_name q entry e) in
    false≢true (sym all.0 ∙ (bytes_eq-Decides id stop.id).1 one))) (none_named (k + 1) q id stops is all.1)

once_named : (k : ℕ) (stops : List StopRow) → IsDistinct bytes_eq (map (λ (stop : StopRow). stop.id) stops) → Once (same_key entry_cmp) (entries_from k stops)
unfolding IsDistinct
once_named k [] distinct = once_nil (same_key entry_cmp)
once_named k (stop ∷ stops) distinct =
    once_cons (same_key entry_cmp) (record { name = escaped stop.id; stop = k; place = stop.place }) (entries_from (k + 1) stops)
    (λ q e. none_named (k + 1) q stop.id stops (same_name q (record { name = escaped stop.id; stop = k; place = stop.place }) e) distinct.0)
    (once_named (k + 1) stops distinct.1)

pub names_rise : (stops : List StopRow) (entries : List StopEntry) → IsDistinct bytes_eq (map (λ (stop : StopRow). stop.id) stops) → AreEntries stops entries
    → first_unsorted name_cmp 0 (map (λ (entry : StopEntry). entry.name) entries) ≡ None
names_rise stops entries distinct are =
    let once = once_permutation (same_key entry_cmp) (entries_from 0 stops) entries are.same (once_named 0 stops distinct) in
    let rise = rises_from_sorted entry_cmp (on_total (λ (entry : StopEntry). entry.name) nat_list_cmp_total) entries are.ascend once in
    rises_sorted name_cmp 0 (map (λ (entry : StopEntry). entry.name) entries) (rises_map entry_cmp name_cmp (λ (entry : StopEntry). entry.name) (λ a b h. h) entries rise)

-- ---- switches

abbrev id_cmp : OsmNode → OsmNode → Ordering
id_cmp a b = int_cmp a.id b.id

-- no more are switches than there are nodes
fewer : (q : OsmNode) (nodes : List OsmNode) → count_by (same_key id_cmp q) (flat_map (λ node. option_to_list (switch_at node)) nodes) ≤ count_by (same_key id_cmp q) nodes
fewer q [] = omega arith
fewer q (node ∷ nodes) = by_test (fewer q nodes) (is_switch node.amenity)
  where
    by_test : count_by (same_key id_cmp q) (flat_map (λ node. option_to_list (switch_at node)) nodes) ≤ count_by (same_key id_cmp q) nodes → (there : Bool) → count_by (same_key id_cmp q) (option_to_list (if there then Some node else None) ++ flat_map (λ node. option_to_list (switch_at node)) nodes) ≤ count_by (same_key id_cmp q) (node ∷ nodes)
    by_test rest true =
        omega (arith, count-cons (same_key id_cmp) q node (flat_map (λ node. option_to_list (switch_at node)) nodes), count-cons (same_key id_cmp) q node nodes, rest)
    by_test rest false = omega (arith, count-cons (same_key id_cmp) q node nodes, rest)

pub switches_rise : (objects : ObjectLists) (places : List OsmNode) → AreObjects objects → AreSwitches objects.nodes places → first_unsorted node_cmp 0 (map switch_node places) ≡ None
switches_rise objects places sound are =
    let all = once_distinct int_eq_equiv (λ (node : OsmNode). node.id) objects.nodes sound.distinct in
    let given : Once (same_key id_cmp) (flat_map (λ node. option_to_list (switch_at node)) objects.nodes) = λ q. (let most : count_by (same_key id_cmp q) objects.nodes ≤ 1 = all q in omega (arith, fewer q objects.nodes, most)) in
    let once = once_permutation (same_key id_cmp) (flat_map (λ node. option_to_list (switch_at node)) objects.nodes) places are.same given in
    let rise = rises_from_sorted id_cmp (on_total (λ (node : OsmNode). node.id) int_cmp_total) places are.ascend once in
    rises_sorted node_cmp 0 (map switch_node places) (rises_map id_cmp node_cmp switch_node (λ a b h. then_equal (int_cmp a.id b.id) h) places rise)
  where
    then_equal : (o : Ordering) → is_lt o ≡ true → is_lt (ordering_then o (nat_cmp 0 0)) ≡ true
    then_equal Less e = refl
    then_equal Equal e = e
    then_equal Greater e = e
