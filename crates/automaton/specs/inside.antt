pub mod Builds
pub mod Rows
pub mod Sets
pub use Builds.{draft_row, Built, built_of, grown, ArePositionsAdded, Adds}
pub use Rows.{PositionRow, entry, position_rows, no_row, position_row}
pub use Sets.{has}
