pub mod Searched
pub use Searched.{IsSearchSpace, IsWalkOf, LiesUnder, IsJourneyUnder}
