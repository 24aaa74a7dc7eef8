pub mod Corners
pub mod Roads
pub mod Stops
pub mod Trips
pub mod SampleCity
pub mod inside
pub use Corners.{Corner, Row, Column, lines, corner, crossing, corners, corner_place, is_car_line, has_cars, is_stop_line, stop_lines}
pub use Roads.{Bases, node_at, road_at, nodes_at, city_roads, RoadNodeKey, road_key, is_same_road_key, is_key_of, road_number_from, arc_between, time_between, road_between, street, streets, row_bases, column_bases, along, corner_arcs, city_arcs}
unfoldable pub use Roads.{road_number}
pub use Stops.{CityStop, has_stop, corner_text, stop_in, corner_stop, city_stops, city_stop_nodes, first_corner, last_corner, city_switches, link_both, city_stop_links, city_switch_links, city_links}
pub use Trips.{Fleet, stop_place, corner_stop_number, calls_along, trip_in, trip_along, line_trips, line_stops, fleet_trips, buses, trams, city_trips}
pub use SampleCity.{IsSampleCity, IsCityRefusal}
