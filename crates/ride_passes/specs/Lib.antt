pub mod Passes
pub mod inside
pub use Passes.{IsBoardedAt, CanBeIn, IsFirstArrival, IsArrivalAt, AreArrivalsAlong}
