pub mod Working
pub use Working.{IsField, IsEndQuery, IsEndIfAny, lines_in, HasArrivals, IsCellIn, cell_of_arrival}
