pub mod Contracted
pub mod inside
pub use Contracted.{is_free, free_below, free_count, IsDistance, IsTrueDistance, IsContractedTo}
