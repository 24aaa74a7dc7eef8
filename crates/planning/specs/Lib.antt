pub mod Plans
pub mod Settled
pub mod Limits
pub mod Arrivals
pub mod Destinations
pub mod inside
pub use Plans.{IsRead, IsPlan, route_of, both, IsCertifiable, AreLabelsOver, AreTheLabels}
pub use Settled.{HasLabelCount, IsLabelCount, told_count, IsSettledCount}
pub use Limits.{SearchHasMore, SearchHasAtMost, IsStoppedLine, IsLineWithin, IsWithinLabels, IsBlockWithin, IsSettledWithin}
pub use Arrivals.{IsBestArrival, asked_to, IsArrivalTo, AreArrivalsTo}
pub use Destinations.{Part, Listing, AddsDestination, IsPartFor, ArePartsFor, IsCoreIfGiven, DescendTo, hierarchy_searched, AreDestinations, IsArrivalAround, AreArrivalsAround, AreNumberArrivals, earlier, earliest, earliest_in}
