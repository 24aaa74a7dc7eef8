pub mod BackLemmas
pub mod ListLemmas
pub mod PlaceLemmas
pub mod SearchLemmas
