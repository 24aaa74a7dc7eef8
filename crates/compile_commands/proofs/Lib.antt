pub mod ResultLemmas
pub mod MapLemmas
pub mod FeedLemmas
pub mod Steps
pub mod CompleteSteps
