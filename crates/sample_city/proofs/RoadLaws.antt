-- The road nodes ascend, and a number is that of one of them.
use Rattle.plan_base.proofs.Common.{◌≡◌, ℕ, pos, ◌+◌, ◌*◌, ◌<◌, ◌≤◌, List, [], ◌∷◌, ◌++◌, length, get_or, nat_eq, true, Option, None, Some, refl, sym, ap, ◌∙◌, arith, eqb-true, ⊎_elim, option_and_then, int_eq, is_lt, and_parts, cases_order, false≢true, Decides-int_eq, nat_tests, position-Some, none-some, slice_get_cases}
use Rattle.std.proofs.lemmas.Iterator.Adapters.{position_from-zero}
use Rattle.plan_base.specs.{number_of_mode, Mode, Foot, Bike, Car, Place}
use Rattle.mode_network.specs.{mode_at, mode_of, first_unsorted, node_cmp, Node, NodeKey, Road, Stop, Switch}
use Rattle.mode_network.proofs.RuleLemmas.{number_is_low}
use Rattle.sample_city.specs.{corner, corner_place, has_cars, city_roads, is_key_of, node_at, nodes_at, road_at, road_number, Corner}
use Rattle.sample_city.proofs.{CornerLaws.corners_rise, RiseLaws.Rise, RiseLaws.rise_append, RiseLaws.rise_few, RiseLaws.rise_if, RiseLaws.rise_in_order, RiseLaws.rise_one}

-- a road node, tagged by its id and its mode
record IsRoadBy (tag : ℕ) (node : Node) : Type 0 where
  id : ℕ
  mode : Mode
  key : node.key ≡ Road mode (pos id)
  is : tag ≡ 3 * id + number_of_mode mode

roads_below : (tag other : ℕ) (a b : Node) → tag < other → IsRoadBy tag a → IsRoadBy other b → is_lt (node_cmp a b) ≡ true
roads_below tag other a b below one two =
    let low = number_is_low one.mode in
    let small = number_is_low two.mode in
    rw (one.key, two.key) (by_numbers one.id two.id one.mode two.mode (omega (arith, below, one.is, two.is, low, small)) (λ same. omega (arith, below, one.is, two.is, same)))
  where
    by_numbers : (i j : ℕ) (m k : Mode) → i ≤ j → (i ≡ j → number_of_mode m < number_of_mode k) → is_lt (node_cmp (record a { key = Road m (pos i) }) (record b { key = Road k (pos j) })) ≡ true
    by_numbers i j m k le lt = ⊎_elim
        (λ same. (let below : number_of_mode m < number_of_mode k = lt same in grind (arith, nat_tests, same, below)))
        (λ other. ⊎_elim (λ under. grind (arith, nat_tests, under)) (λ above. absurd (omega (arith, le, above))) other)
        (cases_order i j)

road_in_rises : (place : Option Place) (at : Corner) (mode : Mode) (low high : ℕ) → low ≡ 3 * at.id + number_of_mode mode → low < high → Rise IsRoadBy low high (node_at place (Road mode (pos at.id)))
road_in_rises None at mode low high is below = omega (arith, below)
road_in_rises (Some place) at mode low high is below =
    rise_one IsRoadBy low high (record { key = Road mode (pos at.id); place = place }) below (record { id = at.id; mode = mode; key = refl; is = is })

roads_rise_at : (at : Corner) (id : ℕ) → id ≡ at.id → Rise IsRoadBy (3 * id) (3 * (id + 1)) (nodes_at at)
roads_rise_at at id is =
    rise_append IsRoadBy (3 * id) (3 * id + 2) (3 * (id + 1)) (road_at at Foot ++ road_at at Bike) _
    (rise_append IsRoadBy (3 * id) (3 * id + 1) (3 * id + 2) (road_at at Foot) (road_at at Bike)
    (road_in_rises (corner_place at) at Foot (3 * id) (3 * id + 1) (omega (arith, is)) (omega arith))
    (road_in_rises (corner_place at) at Bike (3 * id + 1) (3 * id + 2) (omega (arith, is)) (omega arith)))
    (rise_if IsRoadBy (3 * id + 2) (3 * (id + 1)) (has_cars at) (road_at at Car) (omega arith)
    (λ there. road_in_rises (corner_place at) at Car (3 * id + 2) (3 * (id + 1)) (omega (arith, is)) (omega arith)))

roads_rise : (n : ℕ) → Rise IsRoadBy 3 (3 * (1 + n * n)) (city_roads n)
roads_rise n = corners_rise IsRoadBy (λ id. 3 * id) n nodes_at (λ row column id there too is. roads_rise_at (corner n row column) id is)

pub roads_in_order : (n : ℕ) → first_unsorted node_cmp 0 (city_roads n) ≡ None
roads_in_order n = rise_in_order IsRoadBy node_cmp roads_below 0 3 (3 * (1 + n * n)) (city_roads n) (roads_rise n)

pub roads_few : (n : ℕ) → length (city_roads n) ≤ 3 * (n * n)
roads_few n = omega (arith, rise_few IsRoadBy 3 (3 * (1 + n * n)) (city_roads n) (roads_rise n))

-- ---- numbers

-- a key is that of a road node with this id, in the mode with this number
abbrev IsKeyOf : ℕ → ℕ → NodeKey → Type 0
IsKeyOf id number key = (mode : Mode) × (key ≡ Road mode (pos id)) × (number_of_mode mode ≡ number)

key_is : (key : NodeKey) (id mode : ℕ) → is_key_of (pos id, mode) key ≡ true → IsKeyOf id mode key
key_is (Road m i) id mode e =
    let parts = and_parts (int_eq i (pos id)) (nat_eq (number_of_mode m) mode) e in
    (m, ap (Road m) ((Decides-int_eq i (pos id)).0 parts.0), eqb-true (number_of_mode m) mode parts.1)
key_is (Stop stop) id mode e = absurd (false≢true e)
key_is (Switch i) id mode e = absurd (false≢true e)

-- the node that has a number
pub number_is : (nodes : List Node) (id mode k : ℕ) (d : Node) → road_number nodes (pos id, mode) ≡ Some k → (k < length nodes) × IsKeyOf id mode (get_or nodes k d).key
unfolding road_number
number_is nodes id mode k d e =
    let test = λ (node : Node). is_key_of (pos id, mode) node.key in
    let found = position-Some test nodes k d (position_from-zero test nodes ∙ e) in
    (found.0, key_is (get_or nodes k d).key id mode found.1)

pub number_below : (nodes : List Node) (id mode k : ℕ) → road_number nodes (pos id, mode) ≡ Some k → k < length nodes
unfolding road_number
number_below [] id mode k e = absurd (none-some k e)
number_below (node ∷ nodes) id mode k e = (number_is (node ∷ nodes) id mode k node e).0

-- two nodes do not have one number
pub number_same : (nodes : List Node) (id mode other more k : ℕ) → road_number nodes (pos id, mode) ≡ Some k → road_number nodes (pos other, more) ≡ Some k → (id ≡ other) × (mode ≡ more)
number_same nodes id mode other more k one two = by_nodes nodes one two
  where
    one_key : (key : NodeKey) → IsKeyOf id mode key → IsKeyOf other more key → (id ≡ other) × (mode ≡ more)
    one_key key (m, is, number) (w, at, count) =
        let keys : Road m (pos id) ≡ Road w (pos other) = sym is ∙ at in
        let modes : m ≡ w = cc in
        (cc, sym number ∙ (ap number_of_mode modes ∙ count))

    by_nodes : (nodes : List Node) → road_number nodes (pos id, mode) ≡ Some k → road_number nodes (pos other, more) ≡ Some k → (id ≡ other) × (mode ≡ more)
    by_nodes [] one two = (let low = number_below [] id mode k one in absurd (omega (arith, low)))
    by_nodes (node ∷ nodes) one two = one_key _ (number_is (node ∷ nodes) id mode k node one).1 (number_is (node ∷ nodes) other more k node two).1

-- the node with the number of an id and a mode is of that mode
pub mode_of_number : (nodes : List Node) (id mode k : ℕ) → road_number nodes (pos id, mode) ≡ Some k → (m : Mode) × (mode_at nodes k ≡ Some m) × (number_of_mode m ≡ mode)
mode_of_number nodes id mode k e = ⊎_elim
    (λ there.
    let (m, key, number) = (number_is nodes id mode k there.0 e).1 in
    (m, ap (option_and_then (λ (node : Node). mode_of node.key)) there.2 ∙ ap (λ (node : Node). mode_of node.key) (sym there.3) ∙ ap mode_of key, number))
    (λ past. absurd (omega (arith, past.0, number_below nodes id mode k e)))
    (slice_get_cases nodes k).1
