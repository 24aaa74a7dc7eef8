pub mod OutArcs
pub use OutArcs.{IsArcFrom, IsRideFrom, IsOut, stop_found, stop_is_found, no_mode, out_of, place_of}
