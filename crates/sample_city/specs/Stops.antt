-- The stops and the switches of the sample city, and their links.
use Rattle.std.specs.Prelude.{decimal, ℕ, pos, ◌+◌, ◌-◌, List, [], ◌∷◌, ◌++◌, length, codes, Bool, ◌&&◌, Option, None, Some, option_to_list, option_and_then, option_map, if◌then◌else◌, flat_map}
use Rattle.plain_texts.specs.{name_of}
use Rattle.plan_base.specs.{Foot, Bike, Place}
use Rattle.mode_network.specs.{Arc, Node, Stop, Switch}
use Rattle.sample_city.specs.{Corners.corner, Corners.corner_place, Corners.corners, Corners.is_stop_line, Roads.RoadNodeKey, Roads.arc_between, Roads.node_at, Roads.road_key, declared.corners.Corner.Corner}
pub use Rattle.sample_city.specs.declared.stops.CityStop.{CityStop}

-- ---- stops

abbrev pub has_stop : Corner → Bool
has_stop at = is_stop_line at.row && is_stop_line at.column

-- a letter, a number, an underscore, and another number
abbrev pub corner_text : ℕ → ℕ → ℕ → List ℕ
corner_text letter line other = letter ∷ [] ++ decimal line ++ codes "_" ++ decimal other

abbrev pub stop_in : Option (List ℕ) → Option Place → Corner → Option CityStop
stop_in name place at = option_and_then (λ name. option_map (λ place. record { name = name; id = at.id; place = place }) place) name

-- byte 83 is S
abbrev pub corner_stop : Corner → Option CityStop
corner_stop at = if has_stop at then stop_in (name_of (corner_text 83 at.row at.column)) (corner_place at) at else None

abbrev pub city_stops : ℕ → List CityStop
city_stops n = flat_map (λ at. option_to_list (corner_stop at)) (corners n)

-- their nodes, counted from k
abbrev pub city_stop_nodes : ℕ → List CityStop → List Node
city_stop_nodes k [] = []
city_stop_nodes k (stop ∷ stops) = record { key = Stop k; place = stop.place } ∷ city_stop_nodes (k + 1) stops

-- ---- switches

abbrev pub first_corner : ℕ → Corner
first_corner n = corner n 0 0

abbrev pub last_corner : ℕ → Corner
last_corner n = corner n (n - 1) (n - 1)

-- bicycles are hired at the first corner, and parked at the last
abbrev pub city_switches : ℕ → List Node
city_switches n = node_at (corner_place (first_corner n)) (Switch (pos 1000000)) ++ node_at (corner_place (last_corner n)) (Switch (pos 1000001))

-- ---- links

-- from a road node to the place of this number, and back, where there is such a road node
abbrev pub link_both : ℕ → ℕ → Option ℕ → List Arc
link_both ms place road = arc_between road (Some place) ms ++ arc_between (Some place) road ms

-- each stop, whose nodes are counted from k, with walkers
abbrev pub city_stop_links : (RoadNodeKey → Option ℕ) → ℕ → List CityStop → List Arc
city_stop_links number k [] = []
city_stop_links number k (stop ∷ stops) = link_both 60000 k (number (road_key stop.id Foot)) ++ city_stop_links number (k + 1) stops

-- Of the switches k and k + 1, the first with walkers and bikes; the last may be reached by bike, and left on foot.
abbrev pub city_switch_links : ℕ → (RoadNodeKey → Option ℕ) → ℕ → List Arc
city_switch_links n number k =
    link_both 30000 k (number (road_key (first_corner n).id Foot)) ++ link_both 30000 k (number (road_key (first_corner n).id Bike))
    ++ arc_between (number (road_key (last_corner n).id Bike)) (Some (k + 1)) 30000 ++ arc_between (Some (k + 1)) (number (road_key (last_corner n).id Foot)) 30000

-- the stops stand behind so many road nodes, and the switches behind the stops
abbrev pub city_links : ℕ → (RoadNodeKey → Option ℕ) → ℕ → List CityStop → List Arc
city_links n number roads stops = city_stop_links number roads stops ++ city_switch_links n number (roads + length stops)
