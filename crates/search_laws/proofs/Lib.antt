pub mod WalkLemmas
pub mod WayLemmas
pub mod FreshLemmas
pub mod FirstLemmas
mod Examples
