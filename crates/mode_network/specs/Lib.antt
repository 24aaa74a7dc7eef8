pub mod NetworkLists
pub mod TableFaults
pub mod Rules
pub mod Journeys
pub mod Indexes
pub mod Timetables
pub mod Copies
pub mod Points
pub mod inside
pub use NetworkLists.{Node, Arc, NodeKey, Road, Stop, Switch, nodes_of, mode_of, mode_at, letter_at, stop_at, stop_node}
pub use TableFaults.{NetFault, Table}
pub use Rules.{OutOfOrder, BadEnd, TooMany, OutOfMemory, rank_of, node_cmp, name_cmp, arc_cmp, AreInOrder, first_unsorted, is_same_mode, joins_modes, joins_layers, end_or_order_fault, unsorted_fault, count_fault, arcs_fault, links_fault, or_else, lists_fault, trips_fault, first_fault, IsRoad, IsStop, IsSwitch, AreParts, IsAscending, HaveDurations, AreNames, AreNamed, IsNetwork, IsFaultOf}
pub use Journeys.{Step, Wait, Link, Stand, Ride, Route, Leads, IsStep, AreSteps, IsJourney}
pub use Indexes.{NodeRow, count_below, range_of, arcs_begun_below, range_from, leg_of, legs_from, IsRange, is_end_of, node_row, AreNodeRows, AreEndMarks}
pub use Timetables.{IsTimetableOf}
pub use Copies.{Endpoint, Near, NearIn, IsCopyIn, IsRoadCopy, point_of, road_points, IsNearestRoad, IsNearCopy, layer_nodes, layer_points, IsNearestIn, IsNearCopyIn, IsCopy, AreExactly, IsPlaceOf}
pub use Points.{HoldSame, is_same_point, has_point}
