pub mod PlaceLemmas
pub mod OrderLemmas
pub mod EntryLemmas
pub mod WalkLemmas
pub mod BridgeLemmas
pub mod VerdictLemmas
