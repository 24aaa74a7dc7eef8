-- The sample city keeps what a network's parts must: keys and durations.
use Rattle.plan_base.proofs.Common.{◌≡◌, ℕ, zero, suc, pos, ◌+◌, ◌^◌, ◌<◌, ◌≤◌, nat_lt, List, [], ◌∷◌, ◌++◌, length, map, get_or, Bool, true, false, Option, None, Some, if◌then◌else◌, refl, sym, ap, subst, ◌∙◌, arith, add-zero, zero-add, All, flat_map, length-map, All-append, All-cons, All-head, All-map, All-nil, All-tail, All-permutation, mul-le}
use Rattle.plan_base.specs.{Mode, Foot, Bike, Car, Place}
use Rattle.mode_network.specs.{NetworkLists.NetworkLists, AreParts, IsRoad, IsStop, IsSwitch, Arc, Node, NodeKey, Road, Switch}
use Rattle.sample_city.specs.{corner, corner_place, corners, has_cars, is_car_line, lines, RoadNodeKey, along, arc_between, city_arcs, column_bases, corner_arcs, node_at, nodes_at, road_at, road_between, road_key, road_number, row_bases, street, streets, time_between, IsSampleCity, city_links, city_stop_links, city_stop_nodes, city_switch_links, city_switches, first_corner, last_corner, link_both, Corner, Row, Column, CityStop, Bases}
use Rattle.sample_city.proofs.RangeLaws.{below_end}

-- what holds of all that each element gives, where the elements are such
pub flat_map-if : {X Y : Type 0} (P : Y → Type 0) (Q : X → Type 0) (f : X → List Y) → ((x : X) → Q x → All P (f x)) → (xs : List X) → All Q xs → All P (flat_map f xs)
flat_map-if P Q f each [] all = All-nil P
flat_map-if P Q f each (x ∷ xs) all = All-append P (f x) (flat_map f xs) (each x (All-head Q x xs all)) (flat_map-if P Q f each xs (All-tail Q x xs all))

if_all : {X : Type 0} (P : X → Type 0) (there : Bool) (xs : List X) → All P xs → All P (if there then xs else [])
if_all P true xs all = all
if_all P false xs all = All-nil P

-- ---- nodes

abbrev IsSmall : Corner → Type 0
IsSmall at = at.id < 10 ^ 18

abbrev IsRoadNode : Node → Type 0
IsRoadNode node = IsRoad node.key

small_corners : (n : ℕ) → n ≤ 300 → All IsSmall (corners n)
small_corners n size =
    flat_map-if IsSmall (λ r. r < n) (λ r. map (corner n r) (lines n)) (λ r row.
    All-map IsSmall (corner n r) (lines n) (λ k d within.
    let column = below_end n k d within in
    let product = mul-le r n 300 300 (omega (arith, row, size)) size in
    omega (arith, product, column, size))) (lines n) (below_end n)

node_is : (P : Node → Type 0) (place : Option Place) (key : NodeKey) → ((place : Place) → P (record { key = key; place = place })) → All P (node_at place key)
node_is P None key each = All-nil P
node_is P (Some place) key each = All-cons P (record { key = key; place = place }) [] (each place) (All-nil P)

roads_at : (at : Corner) → IsSmall at → All IsRoadNode (nodes_at at)
roads_at at small =
    All-append IsRoadNode (road_at at Foot ++ road_at at Bike) _ (All-append IsRoadNode (road_at at Foot) (road_at at Bike) (road_is Foot) (road_is Bike))
    (if_all IsRoadNode (has_cars at) (road_at at Car) (road_is Car))
  where
    road_is : (mode : Mode) → All IsRoadNode (road_at at mode)
    road_is mode = node_is IsRoadNode (corner_place at) (Road mode (pos at.id)) (λ place. small)

abbrev IsSwitchNode : Node → Type 0
IsSwitchNode node = IsSwitch node.key

switches_are : (n : ℕ) → All IsSwitchNode (city_switches n)
switches_are n =
    All-append IsSwitchNode (node_at (corner_place (first_corner n)) (Switch (pos 1000000))) (node_at (corner_place (last_corner n)) (Switch (pos 1000001)))
    (node_is IsSwitchNode (corner_place (first_corner n)) (Switch (pos 1000000)) (λ place. omega arith)) (node_is IsSwitchNode (corner_place (last_corner n)) (Switch (pos 1000001)) (λ place. omega arith))

stop_nodes_keep : (j : ℕ) (stops : List CityStop) (k : ℕ) (d : Node) → k < length (city_stop_nodes j stops) → IsStop (j + k) (get_or (city_stop_nodes j stops) k d).key
stop_nodes_keep j [] k d below = absurd (omega arith)
stop_nodes_keep j (stop ∷ stops) zero d below = sym (add-zero j)
stop_nodes_keep j (stop ∷ stops) (suc k) d below =
    let same : j + 1 + k ≡ j + suc k = omega arith in
    subst (λ place. IsStop place (get_or (city_stop_nodes (j + 1) stops) k d).key) same (stop_nodes_keep (j + 1) stops k d (omega arith))

pub stop_nodes_long : (j : ℕ) (stops : List CityStop) → length (city_stop_nodes j stops) ≡ length stops
stop_nodes_long j [] = refl
stop_nodes_long j (stop ∷ stops) = ap suc (stop_nodes_long (j + 1) stops)

-- ---- durations

abbrev Lasts : Arc → Type 0
Lasts arc = 0 < arc.ms

arc_lasts : (from to : Option ℕ) (ms : ℕ) → 0 < ms → All Lasts (arc_between from to ms)
arc_lasts None to ms some = All-nil Lasts
arc_lasts (Some from) None ms some = All-nil Lasts
arc_lasts (Some from) (Some to) ms some = All-cons Lasts (record { from = from; to = to; ms = ms }) [] some (All-nil Lasts)

module _ (number : RoadNodeKey → Option ℕ) where
  street_lasts : (mode : Mode) (base a b : ℕ) → 0 < base → All Lasts (street number mode base a b)
  street_lasts mode base a b some = All-append Lasts (road_between number mode base a b) _ (arc_lasts _ _ (time_between base a b) (omega arith)) (arc_lasts _ _ (time_between base b a) (omega arith))

  streets_last : (bases : Bases) (cars : Bool) (a b : ℕ) → 0 < bases.foot → 0 < bases.bike → 0 < bases.car → All Lasts (streets number bases cars a b)
  streets_last bases cars a b f k c =
      All-append Lasts (street number Foot bases.foot a b ++ street number Bike bases.bike a b) _
      (All-append Lasts (street number Foot bases.foot a b) (street number Bike bases.bike a b) (street_lasts Foot bases.foot a b f) (street_lasts Bike bases.bike a b k))
      (if_all Lasts cars (street number Car bases.car a b) (street_lasts Car bases.car a b c))

  arcs_last_at : (n : ℕ) (at : Corner) → All Lasts (corner_arcs n number at)
  arcs_last_at n at =
      All-append Lasts (along n number at Row) (along n number at Column)
      (if_all Lasts (nat_lt (at.column + 1) n) _ (streets_last row_bases (is_car_line at.row) at.id (at.id + 1) (omega arith) (omega arith) (omega arith)))
      (if_all Lasts (nat_lt (at.row + 1) n) _ (streets_last column_bases (is_car_line at.column) at.id (at.id + n) (omega arith) (omega arith) (omega arith)))

  both_last : (ms place : ℕ) (road : Option ℕ) → 0 < ms → All Lasts (link_both ms place road)
  both_last ms place road some = All-append Lasts (arc_between road (Some place) ms) (arc_between (Some place) road ms) (arc_lasts road (Some place) ms some) (arc_lasts (Some place) road ms some)

  stop_links_last : (k : ℕ) (stops : List CityStop) → All Lasts (city_stop_links number k stops)
  stop_links_last k [] = All-nil Lasts
  stop_links_last k (stop ∷ stops) =
      All-append Lasts (link_both 60000 k (number (road_key stop.id Foot))) (city_stop_links number (k + 1) stops) (both_last 60000 k (number (road_key stop.id Foot)) (omega arith)) (stop_links_last (k + 1) stops)

  switch_links_last : (n k : ℕ) → All Lasts (city_switch_links n number k)
  switch_links_last n k =
      All-append Lasts _ _
      (All-append Lasts _ _
      (All-append Lasts _ _ (both_last 30000 k (number (road_key (first_corner n).id Foot)) (omega arith)) (both_last 30000 k (number (road_key (first_corner n).id Bike)) (omega arith)))
      (arc_lasts (number (road_key (last_corner n).id Bike)) (Some (k + 1)) 30000 (omega arith)))
      (arc_lasts (Some (k + 1)) (number (road_key (last_corner n).id Foot)) 30000 (omega arith))

  links_last_all : (n roads : ℕ) (stops : List CityStop) → All Lasts (city_links n number roads stops)
  links_last_all n roads stops = All-append Lasts (city_stop_links number roads stops) (city_switch_links n number (roads + length stops)) (stop_links_last roads stops) (switch_links_last n (roads + length stops))

pub city_parts : (n : ℕ) (network : NetworkLists) → n ≤ 300 → IsSampleCity n network → AreParts network
city_parts n network size is = record {
  roads_are = subst (All IsRoadNode) (sym is.roads) (flat_map-if IsRoadNode IsSmall nodes_at roads_at (corners n) (small_corners n size));
  stops_are = λ k d below. subst (λ (stops : List Node). k < length stops → IsStop k (get_or stops k d).key) (sym is.stops) (λ there. rw (zero-add k) at (stop_nodes_keep 0 is.city k d there)) below;
  switches_are = subst (All IsSwitchNode) (sym is.switches) (switches_are n);
  one_name_each = ap length is.names ∙ length-map is.city (λ (stop : CityStop). stop.name) ∙ sym (ap length is.stops ∙ stop_nodes_long 0 is.city);
  arcs_last = All-permutation Lasts (city_arcs n (road_number network.roads)) network.arcs is.arcs.same (flat_map-if Lasts (λ at. Unit {0}) (corner_arcs n (road_number network.roads)) (λ at any. arcs_last_at (road_number network.roads) n at) (corners n) (λ k d within. tt));
  links_last = All-permutation Lasts (city_links n (road_number network.roads) (length network.roads) is.city) network.links is.links.same (links_last_all (road_number network.roads) n (length network.roads) is.city);
}
