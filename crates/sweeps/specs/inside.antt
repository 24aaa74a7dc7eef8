-- What single steps do when a sheet is made and swept; types and the clauses of private calls name it.
pub mod Bounds
pub mod Building
pub mod Tables
pub mod Steps
pub use Building.{IsOneMoreRow, AreUps, AreDowns, AreRowsOf, AreUpsAt, AreDownsAt, IsPlaceBehind}
pub use Steps.{IsLowered, IsSpreadBy, AreSpread, IsGatheredBy, IsGathered}
pub use Tables.{ArePlacesOf}
