pub mod BoardRides
pub mod LeastLaws
pub mod LeastWalks
pub mod Listing
pub mod Searching
pub mod SettingOff
pub mod Stretches
pub mod Transit
pub use BoardRides.{ride_to, least_way, least_ways, ends_from, AddsAlike}
pub use LeastWalks.{HasWalkAsFast}
pub use Listing.{next_moment, is_shorter, is_later_row, with_departure}
pub use Searching.{ReadsRides, search_labels, IsRowFor, IsRowUnpacked, IsPrintableRow, IsFirstRow, IsFirstRowFrom, NoneTakesLess}
pub use SettingOff.{unwaited, waiting, MayLeaveLater, IsSetOff}
pub use Stretches.{stretch_at, AreShortened, FitsBetweenCalls, FitBetweenCalls, calls_from}
pub use Transit.{IsTransit, NoneByTransit, ReadsNoTransit}
