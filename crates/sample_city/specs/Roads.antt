-- The road nodes of the sample city, and the road arcs between neighbouring corners.
use Rattle.std.specs.Prelude.{ℕ, ℤ, pos, ◌+◌, ◌*◌, ◌%◌, List, [], ◌++◌, nat_eq, nat_lt, Bool, false, ◌&&◌, Option, option_to_list, option_and_then, option_map, if◌then◌else◌, flat_map}
use Rattle.std.specs.List.{position_from}
use Rattle.std.specs.Ordering.{int_eq}
use Rattle.plan_base.specs.{number_of_mode, Mode, Foot, Bike, Car, Place}
use Rattle.mode_network.specs.{Arc, Node, NodeKey, Road, Stop, Switch}
use Rattle.sample_city.specs.{Corners.corner_place, Corners.corners, Corners.has_cars, Corners.is_car_line, declared.corners.Corner.Corner, declared.corners.Direction.Direction, declared.corners.Direction.TheVariants.Row, declared.corners.Direction.TheVariants.Column}
pub use Rattle.sample_city.specs.declared.streets.Bases.{Bases}

-- ---- nodes

-- the node at a place, where there is one
abbrev pub node_at : Option Place → NodeKey → List Node
node_at place key = option_to_list (option_map (λ place. record { key = key; place = place }) place)

abbrev pub road_at : Corner → Mode → List Node
road_at at mode = node_at (corner_place at) (Road mode (pos at.id))

-- for walkers and for bikes, and for cars where they drive along
abbrev pub nodes_at : Corner → List Node
nodes_at at = road_at at Foot ++ road_at at Bike ++ (if has_cars at then road_at at Car else [])

abbrev pub city_roads : ℕ → List Node
city_roads n = flat_map nodes_at (corners n)

-- an OSM id, and the number of a mode
abbrev pub RoadNodeKey : Type 0
RoadNodeKey = ℤ × ℕ

abbrev pub road_key : ℕ → Mode → RoadNodeKey
road_key id mode = (pos id, number_of_mode mode)

abbrev pub is_same_road_key : RoadNodeKey → RoadNodeKey → Bool
is_same_road_key a b = int_eq a.0 b.0 && nat_eq a.1 b.1

abbrev pub is_key_of : RoadNodeKey → NodeKey → Bool
is_key_of end (Road mode id) = is_same_road_key (id, number_of_mode mode) end
is_key_of end (Stop stop) = false
is_key_of end (Switch id) = false

-- the number of a road node is its place among the road nodes
abbrev pub road_number_from : ℕ → List Node → RoadNodeKey → Option ℕ
road_number_from k nodes end = position_from (λ (node : Node). is_key_of end node.key) k nodes

unfoldable pub road_number : List Node → RoadNodeKey → Option ℕ
road_number nodes end = road_number_from 0 nodes end

-- ---- arcs, between the numbers of nodes

-- the arc from a node to another, where there are both
abbrev pub arc_between : Option ℕ → Option ℕ → ℕ → List Arc
arc_between from to ms = option_to_list (option_and_then (λ from. option_map (λ to. record { from = from; to = to; ms = ms }) to) from)

abbrev pub time_between : ℕ → ℕ → ℕ → ℕ
time_between base from to = base + (37 * from + 11 * to) % 1000

abbrev pub road_between : (RoadNodeKey → Option ℕ) → Mode → ℕ → ℕ → ℕ → List Arc
road_between number mode base from to = arc_between (number (road_key from mode)) (number (road_key to mode)) (time_between base from to)

-- both ways between the nodes of two ids
abbrev pub street : (RoadNodeKey → Option ℕ) → Mode → ℕ → ℕ → ℕ → List Arc
street number mode base a b = road_between number mode base a b ++ road_between number mode base b a

-- with the base times of walkers, bikes and cars
abbrev pub streets : (RoadNodeKey → Option ℕ) → Bases → Bool → ℕ → ℕ → List Arc
streets number bases cars a b = street number Foot bases.foot a b ++ street number Bike bases.bike a b ++ (if cars then street number Car bases.car a b else [])

abbrev pub row_bases : Bases
row_bases = record { foot = 53203; bike = 17735; car = 8939 }

abbrev pub column_bases : Bases
column_bases = record { foot = 79515; bike = 26505; car = 13359 }

-- To the next corner of the row, whose id is greater by 1, and to that of the column, whose id is greater by n.
abbrev pub along : ℕ → (RoadNodeKey → Option ℕ) → Corner → Direction → List Arc
along n number at Row = if nat_lt (at.column + 1) n then streets number row_bases (is_car_line at.row) at.id (at.id + 1) else []
along n number at Column = if nat_lt (at.row + 1) n then streets number column_bases (is_car_line at.column) at.id (at.id + n) else []

abbrev pub corner_arcs : ℕ → (RoadNodeKey → Option ℕ) → Corner → List Arc
corner_arcs n number at = along n number at Row ++ along n number at Column

abbrev pub city_arcs : ℕ → (RoadNodeKey → Option ℕ) → List Arc
city_arcs n number = flat_map (corner_arcs n number) (corners n)
