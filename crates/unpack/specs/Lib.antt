pub mod Unpacking
pub mod Taken
pub mod PhaseUnpacking
pub use Unpacking.{AreHopsIn, ArePlainHops, leaves_at, with_wait, steps_of, node_after, arrival_after, letters_of, HaveArcs, IsSoon}
pub use Taken.{IsPlainWalk, TakesHops}
pub use PhaseUnpacking.{letters_in, IsUnpacked, GoesOn, GoesOnByArc, road_step, GoesOnByRoads, AreStillPacked, weight_of, ArePartsOf}
