pub mod BlockCauses
pub mod TurnCauses
pub use BlockCauses.{IsBlockOutcome, IsBlocksOutcome}
pub use TurnCauses.{IsUpToDate, fault_at, AreAnswered, IsBegun, IsPieceOutcome, IsKeepOutcome, IsLineOutcome, IsSumWith, AreEnded}
