pub mod Maps
pub mod Feeds
pub mod Builds
pub mod Complete
pub mod Outputs
pub mod Commands
pub mod inside
pub use Maps.{BeginsSo, OnObjects, OnMap}
pub use Feeds.{in_order, may_be_absent, path_of, IsFileOfFeed, AreTables, IsTableUnread, IsFeedUnread, text_of, lent, feed_files_of, OnLists, OnFeed}
pub use Builds.{OnBuild}
pub use Complete.{SpellsObjects, IsTableHeld, AreTablesHeld, IsFeedHeld, GivesRegion}
pub use Outputs.{IsRegionFile}
pub use Commands.{SaysCompile, SaysMigrate}
