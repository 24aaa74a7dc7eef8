pub mod Rows
pub mod Sweeps
pub mod Slopes
pub mod Sheets
pub mod Layers
pub mod inside
pub use Rows.{row_at}
pub use Slopes.{Slope, leg_by, LeadsDown, HasRoom}
pub use Sheets.{Sheet, LeadsUp, LeadsBetween, HasWayOver, IsWhole}
pub use Sweeps.{time_at, ArrivesBy, IsWalked, AreWalked, AreClosed}
pub use Layers.{IsSlopeOf, HasNoSlope, IsSheetOf, IsLayer, SheetsAreWhole}
