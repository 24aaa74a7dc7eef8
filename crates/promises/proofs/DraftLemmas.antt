-- What a map and a feed give are the same lists, list by list.
use Rattle.plan_base.proofs.Common.{◌≡◌, ℕ, ℤ, ◌+◌, Bool, true, false, List, [], ◌∷◌, ◌++◌, map, Option, Some, None, if◌then◌else◌, refl, sym, ap, ap₂, ◌∙◌, bytes_eq, option_to_list, AllByRecursion, flat_map, IsPermutation, IsSorted, IsTotalOrder, int_cmp, int_eq, is_eq, Equal, false≢true, Decides-int_eq, int_cmp_total, nat_cmp_total, on_total, then_total, exact_signed, is_eq-slice_cmp, bytes_eq-Decides}
use Rattle.std.specs.List.{IsDistinct}
use Rattle.plain_texts.specs.{escaped}
use Rattle.plain_texts.proofs.EscapeLaws.{escaped_of_one}
use Rattle.plan_base.specs.{number_of_mode, Mode, Foot, Bike, Car, Place}
use Rattle.geo_length.proofs.NearestLaws.{IsNearest-only}
use Rattle.opl_reader.specs.{Amenity, Nothing, Parking, BicycleParking, BicycleRental, OsmNode, AreObjects, ObjectLists.ObjectLists}
use Rattle.road_profile.specs.{AreArcsOf, row_cmp, RoadRow}
use Rattle.gtfs_tables.specs.{StopRow}
use Rattle.mode_network.specs.{name_cmp, Node}
use Rattle.mode_network.proofs.RuleLemmas.{names_total}
use Rattle.region_build.specs.{AreEnds, End, end_cmp, ends_at, once_behind, FindsNearest, join, join_links, layer, linked_to, links_at, stop_joins, stop_links, switch_joins, switch_links, entries_from, AreSwitches, is_switch, switch_at}
use Rattle.region_build.proofs.EndLaws.{end_total, exact_end}
use Rattle.promises.proofs.OrderLemmas.{ascending_once, distinct_by, distinct_once, sorted_once}

-- ---- roads

rows_total : IsTotalOrder row_cmp
rows_total = then_total (on_total (λ (row : RoadRow). row.from) int_cmp_total) (then_total (on_total (λ (row : RoadRow). row.to) int_cmp_total) (on_total (λ (row : RoadRow). number_of_mode row.mode) nat_cmp_total))

pub rows_once : (legs xs ys : List RoadRow) → AreArcsOf legs xs → AreArcsOf legs ys → xs ≡ ys
rows_once legs xs ys one other =
    ascending_once row_cmp rows_total xs ys one.ascending other.ascending
    (λ z has. (other.arcs z).1 ((one.arcs z).0 has)) (λ z has. (one.arcs z).1 ((other.arcs z).0 has))

pub ends_once : (rows : List RoadRow) (xs ys : List End) → AreEnds rows xs → AreEnds rows ys → xs ≡ ys
ends_once rows xs ys one other =
    let sorted = sorted_once end_cmp end_total exact_end (flat_map ends_at rows) one.sorted other.sorted one.same other.same one.ascend other.ascend in
    one.once ∙ ap (once_behind []) sorted ∙ sym other.once

-- ---- stops

names_tested : (x y : List ℕ) → name_cmp x y ≡ Equal → bytes_eq x y ≡ true
names_tested x y e = sym (is_eq-slice_cmp x y) ∙ ap is_eq e

names_flip : (x y : List ℕ) → bytes_eq x y ≡ bytes_eq y x
names_flip x y = by_test (bytes_eq x y) (bytes_eq y x) refl refl
  where
    by_test : (s t : Bool) → bytes_eq x y ≡ s → bytes_eq y x ≡ t → bytes_eq x y ≡ bytes_eq y x
    by_test true true p q = p ∙ sym q
    by_test true false p q = absurd (false≢true (sym q ∙ (bytes_eq-Decides y x).1 (sym ((bytes_eq-Decides x y).0 p))))
    by_test false true p q = absurd (false≢true (sym p ∙ (bytes_eq-Decides x y).1 (sym ((bytes_eq-Decides y x).0 q))))
    by_test false false p q = p ∙ sym q

-- names of ids that differ differ
pub names_differ : (stops : List StopRow) (k : ℕ) → IsDistinct bytes_eq (map (λ (stop : StopRow). stop.id) stops) → IsDistinct bytes_eq (map (λ entry. entry.name) (entries_from k stops))
unfolding IsDistinct
names_differ [] k distinct = tt
names_differ (stop ∷ stops) k distinct = (each stops (k + 1) distinct.0, names_differ stops (k + 1) distinct.1)
  where
    by_test : (id : List ℕ) (t : Bool) → bytes_eq stop.id id ≡ false → bytes_eq (escaped stop.id) (escaped id) ≡ t → bytes_eq (escaped stop.id) (escaped id) ≡ false
    by_test id false differ e = e
    by_test id true differ e =
        absurd (false≢true (sym differ ∙ (bytes_eq-Decides stop.id id).1 (escaped_of_one stop.id id ((bytes_eq-Decides (escaped stop.id) (escaped id)).0 e))))

    each : (others : List StopRow) (j : ℕ) → AllByRecursion (λ id. bytes_eq stop.id id ≡ false) (map (λ (other : StopRow). other.id) others)
        → AllByRecursion (λ name. bytes_eq (escaped stop.id) name ≡ false) (map (λ entry. entry.name) (entries_from j others))
    each [] j all = tt
    each (other ∷ others) j all = (by_test other.id (bytes_eq (escaped stop.id) (escaped other.id)) all.0 refl, each others (j + 1) all.1)

-- things whose names differ stand in one order
pub named_apart_once : {X : Type 0} (given xs ys : List X) (name : X → List ℕ) → IsDistinct bytes_eq (map name given) → IsPermutation given xs → IsPermutation given ys
    → IsSorted (λ a b. name_cmp (name a) (name b)) xs → IsSorted (λ a b. name_cmp (name a) (name b)) ys → xs ≡ ys
named_apart_once given xs ys name distinct one other sorted also =
    distinct_once (λ a b. name_cmp (name a) (name b)) (on_total name names_total) (λ a b. bytes_eq (name a) (name b)) (λ a b. names_flip (name a) (name b))
    (λ a b e. names_tested (name a) (name b) e) given xs ys (distinct_by name bytes_eq given distinct) one other sorted also

-- ---- switches

ids_flip : (x y : ℤ) → int_eq x y ≡ int_eq y x
ids_flip x y = by_test (int_eq x y) (int_eq y x) refl refl
  where
    by_test : (s t : Bool) → int_eq x y ≡ s → int_eq y x ≡ t → int_eq x y ≡ int_eq y x
    by_test true true p q = p ∙ sym q
    by_test true false p q = absurd (false≢true (sym q ∙ (Decides-int_eq y x).1 (sym ((Decides-int_eq x y).0 p))))
    by_test false true p q = absurd (false≢true (sym p ∙ (Decides-int_eq x y).1 (sym ((Decides-int_eq y x).0 q))))
    by_test false false p q = p ∙ sym q

abbrev same_id : OsmNode → OsmNode → Bool
same_id a b = int_eq a.id b.id

abbrev switches_among : List OsmNode → List OsmNode
switches_among nodes = flat_map (λ node. option_to_list (switch_at node)) nodes

switches_differ : (nodes : List OsmNode) → IsDistinct same_id nodes → IsDistinct same_id (switches_among nodes)
unfolding IsDistinct
switches_differ [] distinct = tt
switches_differ (node ∷ nodes) distinct = by_test (is_switch node.amenity) (switches_differ nodes distinct.1)
  where
    few : (more : List OsmNode) → AllByRecursion (λ y. same_id node y ≡ false) more → AllByRecursion (λ y. same_id node y ≡ false) (switches_among more)
    few [] all = tt
    few (x ∷ more) all = by_amenity (is_switch x.amenity) (few more all.1)
      where
        by_amenity : (t : Bool) → AllByRecursion (λ y. same_id node y ≡ false) (switches_among more)
            → AllByRecursion (λ y. same_id node y ≡ false) (option_to_list (if t then Some x else None) ++ switches_among more)
        by_amenity true rest = (all.0, rest)
        by_amenity false rest = rest

    by_test : (t : Bool) → IsDistinct same_id (switches_among nodes) → IsDistinct same_id (option_to_list (if t then Some node else None) ++ switches_among nodes)
    by_test true rest = (few nodes distinct.0, rest)
    by_test false rest = rest

pub switches_once : (objects : ObjectLists) → AreObjects objects → (xs ys : List OsmNode) → AreSwitches objects.nodes xs → AreSwitches objects.nodes ys → xs ≡ ys
switches_once objects sound xs ys one other =
    distinct_once (λ (a b : OsmNode). int_cmp a.id b.id) (on_total (λ (node : OsmNode). node.id) int_cmp_total) same_id (λ a b. ids_flip a.id b.id)
    (λ a b e. (Decides-int_eq a.id b.id).1 (exact_signed a.id b.id e)) (switches_among objects.nodes) xs ys
    (switches_differ objects.nodes (distinct_by (λ (node : OsmNode). node.id) int_eq objects.nodes sound.distinct)) one.same other.same one.ascend other.ascend

-- ---- links

module _ (roads : List Node) (ends : List End) (near other : Mode → Place → Option (ℤ × ℕ)) (finds : FindsNearest roads near) (also : FindsNearest roads other) where
  same_near : (mode : Mode) (place : Place) → near mode place ≡ other mode place
  same_near mode place = IsNearest-only place 500000 (layer mode roads) (near mode place) (other mode place) (finds.nearest mode place) (also.nearest mode place)

  at_stop : (k : ℕ) (place : Place) → links_at near ends k place stop_joins ≡ links_at other ends k place stop_joins
  unfolding links_at join_links
  at_stop k place = ap (λ x. linked_to ends (join Foot true true) k x ++ []) (same_near Foot place)

  at_switch : (k : ℕ) (place : Place) (amenity : Amenity) → links_at near ends k place (switch_joins amenity) ≡ links_at other ends k place (switch_joins amenity)
  unfolding links_at join_links
  at_switch k place Nothing = refl
  at_switch k place Parking =
      ap₂ (λ x y. linked_to ends (join Car true true) k x ++ (linked_to ends (join Foot true true) k y ++ [])) (same_near Car place) (same_near Foot place)
  at_switch k place BicycleParking =
      ap₂ (λ x y. linked_to ends (join Bike true false) k x ++ (linked_to ends (join Foot false true) k y ++ [])) (same_near Bike place) (same_near Foot place)
  at_switch k place BicycleRental =
      ap₂ (λ x y. linked_to ends (join Foot true true) k x ++ (linked_to ends (join Bike true true) k y ++ [])) (same_near Foot place) (same_near Bike place)

  pub stop_links_once : (k : ℕ) (entries : _) → stop_links near ends k entries ≡ stop_links other ends k entries
  stop_links_once k [] = refl
  stop_links_once k (entry ∷ entries) = ap₂ (λ xs ys. xs ++ ys) (at_stop k entry.place) (stop_links_once (k + 1) entries)

  pub switch_links_once : (k : ℕ) (switches : List OsmNode) → switch_links near ends k switches ≡ switch_links other ends k switches
  switch_links_once k [] = refl
  switch_links_once k (switch ∷ switches) = ap₂ (λ xs ys. xs ++ ys) (at_switch k switch.place switch.amenity) (switch_links_once (k + 1) switches)
