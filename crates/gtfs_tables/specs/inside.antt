pub mod Finding
pub mod Holding
pub mod ReadTables
pub mod RowsLeft
pub use Finding.{AreFound}
pub use Holding.{Holds, IsTaken, TakesRow, IsOnTheWay, AreRead}
pub use RowsLeft.{Source, rows_from, TakesRows, IsWant, HasStepped}
