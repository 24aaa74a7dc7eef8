pub mod Working
pub use Working.{HasFed, IsPieceRefusal, IsEndOutcome, HasMap, IsMapOutcome, HasFeed, IsFeedOutcome, IsListsOutcome, IsBuildOutcome}
