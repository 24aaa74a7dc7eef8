pub mod Rows
pub mod inside
pub use Rows.{Edge, items_of, row_at, HasEdge, IsEdgeOf, AreEdgeRows, IsWalkWithin, NoWalkWithin}
