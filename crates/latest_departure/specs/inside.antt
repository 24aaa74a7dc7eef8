pub mod Fields
pub mod Sums
pub mod Forward
pub mod MirrorWays
pub use Sums.{sum_before, AreSums, HoldsSum, StandsFor}
pub use Forward.{leaving, IsFirst, IsFirstIfAny, IsJourneyUnpacked}
pub use MirrorWays.{ride_calls, mirror_ride_ways, mirror_run_ways, source_ways}
