pub mod ClassLaws
pub mod ClosedLaws
pub mod EndLaws
pub mod LeastRows
pub mod Lists
pub mod PlaceLaws
pub mod RowOrder
pub mod TimedLaws
