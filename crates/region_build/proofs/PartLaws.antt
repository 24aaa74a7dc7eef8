-- What a map and a feed give keeps what a network's parts must: keys and durations.
use Rattle.plan_base.proofs.Common.{◌≡◌, ℕ, ℤ, zero, suc, ◌+◌, ◌<◌, ◌≤◌, List, [], ◌∷◌, ◌++◌, length, map, get_or, Bool, true, false, Option, None, Some, if◌then◌else◌, refl, sym, ap, subst, ◌∙◌, arith, option_map, add-zero, zero-add, ◌⊎◌, inl, inr, All, is_some, option_to_list, AllByRecursion, flat_map, list_any, int_eq, Decides-int_eq, length-map, All-append, All-cons, All-from_recursion, All-head, All-map, All-nil, All-tail, All-weaker, All-permutation}
use Rattle.plain_texts.specs.{IsId}
use Rattle.plan_base.specs.{Mode, Place}
use Rattle.geo_length.specs.{duration_of}
use Rattle.opl_reader.specs.{AreObjects, IsOsmId, OsmNode, ObjectLists.ObjectLists}
use Rattle.road_profile.specs.{IsTimed, JoinsPlaces, place_of_node, RoadRow}
use Rattle.road_profile.proofs.{EndLaws.arcs_joined, TimedLaws.arcs_timed, TimedLaws.duration_of-ge}
use Rattle.gtfs_tables.specs.FeedLists.{FeedLists}
use Rattle.mode_network.specs.{NetworkLists.NetworkLists, AreParts, IsRoad, IsStop, IsSwitch, Arc, Node, Road}
use Rattle.region_build.specs.{AreLists, AreRoads, End, ends_at, is_same_end, number_of_end, once_behind, AreLinks, join_links, joined_stop, joined_switch, linked, linked_to, links_at, place_links, arc_between, arc_by_row, arcs_of, road_node, stop_entry_nodes, AreSwitches, is_switch, switch_at, switch_node, Join, StopEntry}

-- what holds of all that each element gives, where the elements are such
pub flat_map-if : {X Y : Type 0} (P : Y → Type 0) (Q : X → Type 0) (f : X → List Y) → ((x : X) → Q x → All P (f x)) → (xs : List X) → All Q xs → All P (flat_map f xs)
flat_map-if P Q f each [] all = All-nil P
flat_map-if P Q f each (x ∷ xs) all = All-append P (f x) (flat_map f xs) (each x (All-head Q x xs all)) (flat_map-if P Q f each xs (All-tail Q x xs all))

-- the ends of arcs
abbrev IsGoodEnd : End → Type 0
IsGoodEnd end = IsId end.0

placed_id : (nodes : List OsmNode) (id : ℤ) → AllByRecursion (λ (node : OsmNode). IsOsmId node.id) nodes → is_some (place_of_node nodes id) ≡ true → IsId id
placed_id [] id ids e = absurd cc
placed_id (node ∷ nodes) id ids e = by_test (int_eq node.id id) refl (placed_id nodes id ids.1) e
  where
    by_test : (same : Bool) → int_eq node.id id ≡ same → (is_some (place_of_node nodes id) ≡ true → IsId id) → is_some (if same then Some node.place else place_of_node nodes id) ≡ true → IsId id
    by_test true same others e = subst IsId ((Decides-int_eq node.id id).0 same) ids.0
    by_test false same others e = others e

pub once_keeps : (P : End → Type 0) (seen ends : List End) → All P seen → All P ends → All P (once_behind seen ends)
once_keeps P seen [] here there = here
once_keeps P seen (end ∷ ends) here there = once_keeps P (if list_any (is_same_end end) seen then seen else seen ++ end ∷ []) ends (by_test (list_any (is_same_end end) seen)) (All-tail P end ends there)
  where
    by_test : (known : Bool) → All P (if known then seen else seen ++ end ∷ [])
    by_test true = here
    by_test false = All-append P seen (end ∷ []) here (All-cons P end [] (All-head P end ends there) (All-nil P))

-- a row joins places, and takes some time
record IsGoodRow (nodes : List OsmNode) (row : RoadRow) : Type 0 where
  joins : JoinsPlaces nodes row
  timed : IsTimed row

both : (nodes : List OsmNode) (rows : List RoadRow) → All (JoinsPlaces nodes) rows → All IsTimed rows → All (IsGoodRow nodes) rows
both nodes [] joins timed = All-nil (IsGoodRow nodes)
both nodes (row ∷ rows) joins timed =
    All-cons (IsGoodRow nodes) row rows (record { joins = All-head (JoinsPlaces nodes) row rows joins; timed = All-head IsTimed row rows timed })
    (both nodes rows (All-tail (JoinsPlaces nodes) row rows joins) (All-tail IsTimed row rows timed))

module _ (objects : ObjectLists) (sound : AreObjects objects) (ends : List End) (nodes : List Node) (arcs : List Arc) (are : AreRoads objects ends nodes arcs) where
  good_rows : All (IsGoodRow objects.nodes) are.rows
  good_rows = both objects.nodes are.rows (arcs_joined objects are.rows are.rows_are) (arcs_timed objects are.rows are.rows_are)

  good_ends : All IsGoodEnd ends
  good_ends =
      let given = flat_map-if IsGoodEnd (IsGoodRow objects.nodes) ends_at (λ row good.
      All-cons IsGoodEnd (row.from, row.mode) ((row.to, row.mode) ∷ []) (placed_id objects.nodes row.from sound.node_ids good.joins.from)
      (All-cons IsGoodEnd (row.to, row.mode) [] (placed_id objects.nodes row.to sound.node_ids good.joins.to) (All-nil IsGoodEnd))) are.rows good_rows in
      let sorted = All-permutation IsGoodEnd (flat_map ends_at are.rows) are.ends_are.sorted are.ends_are.same given in
      subst (All IsGoodEnd) (sym are.ends_are.once) (once_keeps IsGoodEnd [] are.ends_are.sorted (All-nil IsGoodEnd) sorted)

  pub roads_keep : All (λ (node : Node). IsRoad node.key) nodes
  unfolding road_node
  roads_keep =
      subst (All (λ (node : Node). IsRoad node.key)) (sym are.nodes_are)
      (flat_map-if (λ (node : Node). IsRoad node.key) IsGoodEnd (λ end. option_to_list (road_node (place_of_node objects.nodes) end)) (λ end good. at_place end good (place_of_node objects.nodes end.0)) ends good_ends)
    where
      at_place : (end : End) → IsGoodEnd end → (place : Option Place) → All (λ (node : Node). IsRoad node.key) (option_to_list (option_map (λ place. record { key = Road end.1 end.0; place = place }) place))
      at_place end good None = All-nil (λ (node : Node). IsRoad node.key)
      at_place end good (Some place) = All-cons (λ (node : Node). IsRoad node.key) (record { key = Road end.1 end.0; place = place }) [] good (All-nil (λ (node : Node). IsRoad node.key))

  pub arcs_last : All (λ (arc : Arc). 0 < arc.ms) arcs
  unfolding arc_by_row
  arcs_last =
      All-permutation (λ (arc : Arc). 0 < arc.ms) (arcs_of ends are.rows) arcs are.arcs_are.same
      (flat_map-if (λ (arc : Arc). 0 < arc.ms) (IsGoodRow objects.nodes) (λ row. option_to_list (arc_by_row ends row)) (λ row good. between row.ms good.timed (number_of_end ends (row.from, row.mode)) (number_of_end ends (row.to, row.mode))) are.rows good_rows)
    where
      between : (ms : ℕ) → 1 ≤ ms → (from to : Option ℕ) → All (λ (arc : Arc). 0 < arc.ms) (option_to_list (arc_between from to ms))
      between ms some None to = All-nil (λ (arc : Arc). 0 < arc.ms)
      between ms some (Some from) None = All-nil (λ (arc : Arc). 0 < arc.ms)
      between ms some (Some from) (Some to) = All-cons (λ (arc : Arc). 0 < arc.ms) (record { from = from; to = to; ms = ms }) [] (omega arith) (All-nil (λ (arc : Arc). 0 < arc.ms))

-- each link leads between a place and a road node of a layer that the place joins
module _ (ends : List End) where
  -- one whose place and mode are such
  pub record IsLinkOf (P : ℕ → Mode → Type 0) (link : Arc) : Type 0 where
    pub place : ℕ
    pub mode : Mode
    pub fits : P place mode
    pub road : ℕ
    pub id : ℤ
    pub mm : ℕ
    pub number : number_of_end ends (id, mode) ≡ Some road
    pub takes : duration_of mm 1400 ≡ Some link.ms
    pub shape : ((link.from ≡ road) × (link.to ≡ place)) ⊎ ((link.from ≡ place) × (link.to ≡ road))

  module _ (P : ℕ → Mode → Type 0) (near : Mode → Place → Option (ℤ × ℕ)) where
    one_if : (there : Bool) (link : Arc) → IsLinkOf P link → All (IsLinkOf P) (if there then link ∷ [] else [])
    one_if true link l = All-cons (IsLinkOf P) link [] l (All-nil (IsLinkOf P))
    one_if false link l = All-nil (IsLinkOf P)

    pub join_fits : (number : ℕ) (join : Join) → P number join.mode → (nearest : Option (ℤ × ℕ)) → All (IsLinkOf P) (linked_to ends join number nearest)
    join_fits number join fits None = All-nil (IsLinkOf P)
    join_fits number join fits (Some nearest) = by_road (number_of_end ends (nearest.0, join.mode)) (duration_of nearest.1 1400) refl refl
      where
        by_road : (road ms : Option ℕ) → number_of_end ends (nearest.0, join.mode) ≡ road → duration_of nearest.1 1400 ≡ ms → All (IsLinkOf P) (linked join number road ms)
        by_road None ms is takes = All-nil (IsLinkOf P)
        by_road (Some road) None is takes = All-nil (IsLinkOf P)
        by_road (Some road) (Some ms) is takes =
            All-append (IsLinkOf P) _ _
            (one_if join.enters (record { from = road; to = number; ms = ms })
            (record { place = number; mode = join.mode; fits = fits; road = road; id = nearest.0; mm = nearest.1; number = is; takes = takes; shape = inl (refl, refl) }))
            (one_if join.leaves (record { from = number; to = road; ms = ms })
            (record { place = number; mode = join.mode; fits = fits; road = road; id = nearest.0; mm = nearest.1; number = is; takes = takes; shape = inr (refl, refl) }))

    pub joins_fit : (number : ℕ) (place : Place) (joins : List Join) → All (λ join. P number join.mode) joins → All (IsLinkOf P) (links_at near ends number place joins)
    unfolding links_at join_links
    joins_fit number place joins fit = flat_map-if (IsLinkOf P) (λ join. P number join.mode) (join_links near ends number place) (λ join fits. join_fits number join fits (near join.mode place)) joins fit

    pub places_fit : (number : ℕ) (places : List (Place × List Join)) → ((k : ℕ) (mode : Mode) → number ≤ k → k < number + length places → P k mode) → All (IsLinkOf P) (place_links near ends number places)
    places_fit number [] fit = All-nil (IsLinkOf P)
    places_fit number (place ∷ places) fit =
        All-append (IsLinkOf P) (links_at near ends number place.0 place.1) (place_links near ends (number + 1) places)
        (joins_fit number place.0 place.1 (λ k d below. fit number (get_or place.1 k d).mode (omega arith) (omega arith)))
        (places_fit (number + 1) places (λ k mode low high. fit k mode (omega arith) (omega arith)))

-- each takes some time
abbrev Lasts : Arc → Type 0
Lasts arc = 0 < arc.ms

links_last : (roads : List Node) (ends : List End) (entries : List StopEntry) (switches : List OsmNode) (links : List Arc) → AreLinks roads ends entries switches links → All Lasts links
links_last roads ends entries switches links are =
    All-weaker (IsLinkOf ends (λ k mode. Unit {0})) Lasts (λ link l. (let least = duration_of-ge l.mm 1400 link.ms l.takes in omega arith)) links
    (All-permutation (IsLinkOf ends (λ k mode. Unit {0})) _ links are.are.same
    (All-append (IsLinkOf ends (λ k mode. Unit {0})) _ _
    (places_fit ends (λ k mode. Unit {0}) are.near (length roads) (map joined_stop entries) (λ k mode low high. tt))
    (places_fit ends (λ k mode. Unit {0}) are.near (length roads + length entries) (map joined_switch switches) (λ k mode low high. tt))))

-- the keys of stops and switches
stop_nodes_keep : (j : ℕ) (entries : List StopEntry) (k : ℕ) (d : Node) → k < length (stop_entry_nodes j entries) → IsStop (j + k) (get_or (stop_entry_nodes j entries) k d).key
stop_nodes_keep j [] k d below = absurd (omega arith)
stop_nodes_keep j (entry ∷ entries) zero d below = sym (add-zero j)
stop_nodes_keep j (entry ∷ entries) (suc k) d below =
    let rest = stop_nodes_keep (j + 1) entries k d (omega arith) in
    let same : j + 1 + k ≡ j + suc k = omega arith in
    subst (λ n. IsStop n (get_or (stop_entry_nodes (j + 1) entries) k d).key) same rest

pub stop_nodes_long : (j : ℕ) (entries : List StopEntry) → length (stop_entry_nodes j entries) ≡ length entries
stop_nodes_long j [] = refl
stop_nodes_long j (entry ∷ entries) = ap suc (stop_nodes_long (j + 1) entries)

switches_keep : (nodes switches : List OsmNode) → AllByRecursion (λ (node : OsmNode). IsOsmId node.id) nodes → AreSwitches nodes switches → All (λ (node : Node). IsSwitch node.key) (map switch_node switches)
switches_keep nodes switches ids are =
    let given = flat_map-if (λ (node : OsmNode). IsId node.id) (λ (node : OsmNode). IsOsmId node.id) (λ node. option_to_list (switch_at node)) (λ node id. one_if_switch node id (is_switch node.amenity)) nodes (All-from_recursion (λ (node : OsmNode). IsOsmId node.id) nodes ids) in
    All-map (λ (node : Node). IsSwitch node.key) switch_node switches (All-permutation (λ (node : OsmNode). IsId node.id) _ switches are.same given)
  where
    one_if_switch : (node : OsmNode) → IsOsmId node.id → (there : Bool) → All (λ (node : OsmNode). IsId node.id) (option_to_list (if there then Some node else None))
    one_if_switch node id true = All-cons (λ (node : OsmNode). IsId node.id) node [] id (All-nil (λ (node : OsmNode). IsId node.id))
    one_if_switch node id false = All-nil (λ (node : OsmNode). IsId node.id)

-- the parts that a network is built of
pub lists_are_parts : {feed : FeedLists} (objects : ObjectLists) (entries : List StopEntry) (n : NetworkLists) → AreObjects objects
    → AreLists objects feed entries n.roads n.stops n.switches n.arcs n.links → n.stop_names ≡ map (λ (entry : StopEntry). entry.name) entries → AreParts n
lists_are_parts objects entries n sound lists names = record {
  roads_are = roads_keep objects sound lists.ends n.roads n.arcs lists.roads_are;
  stops_are = λ k d below. subst (λ (stops : List Node). k < length stops → IsStop k (get_or stops k d).key) (sym lists.stops_are) (λ there. rw (zero-add k) at (stop_nodes_keep 0 entries k d there)) below;
  switches_are = subst (All (λ (node : Node). IsSwitch node.key)) (sym lists.switches_are) (switches_keep objects.nodes lists.places sound.node_ids lists.places_are);
  one_name_each = ap length names ∙ length-map entries (λ (entry : StopEntry). entry.name) ∙ sym (ap length lists.stops_are ∙ stop_nodes_long 0 entries);
  arcs_last = arcs_last objects sound lists.ends n.roads n.arcs lists.roads_are;
  links_last = links_last n.roads lists.ends entries lists.places n.links lists.links_are;
}
