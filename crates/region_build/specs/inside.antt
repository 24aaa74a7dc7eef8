pub mod ByService
pub mod Layers
pub mod Leaving
pub mod Numbers
pub use ByService.{at, listed, rule_with, TellServices, KnowDays}
pub use Layers.{near_of}
unfoldable pub use Layers.{nearest_of}
pub use Leaving.{latest_of, kept_before, AreRowCounts, AreCopyCounts}
unfoldable pub use Leaving.{leaves_by}
