pub mod PlainArcs
pub mod Rides
pub mod Lawful
pub mod Simulation
pub mod BoardWays
pub mod inside
pub use PlainArcs.{PlainArc, Road, Link, Stand, Ride, count_from, stands_at, rides_from_stop, rides_of, inner_arcs_at, arcs_at, no_arc, no_ride, plain_arc, pattern_call, graph_arc, run_at, arrival, plain_meaning}
pub use Rides.{IsRideOf, IsKnownRide, alights_within, takes, IsPastBoard}
pub use Lawful.{transit_letter, stops_in_range, node_of, plain_lawful}
pub use Simulation.{step_of, WalksAreJourneys, HasPlainWalk, JourneysAreWalks, IsNoWait, ArcsAreSteps, HasArcBy, StepsAreArcs}
pub use BoardWays.{ride_way, ride_ways, run_ways, board_ways, boards_ways, call_way, call_ways, day_ways, rides_behind, plain_rides}
