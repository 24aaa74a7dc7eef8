pub mod Fields
pub mod Tables
pub mod Walks
pub use Walks.{witness_in, IsWalkIn}
