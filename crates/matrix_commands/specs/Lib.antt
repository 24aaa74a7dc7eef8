pub mod Cells
pub mod Rows
pub mod Commands
pub mod Complete
pub mod inside
pub use Cells.{Cell, query_line_of, IsCellOf, IsRightCell, cell_text}
pub use Rows.{row_text, IsMatrixRow, AreRowsOf}
pub use Commands.{WritesTable, SaysMatrix}
pub use Complete.{CanMatrix, MatrixCompletes}
