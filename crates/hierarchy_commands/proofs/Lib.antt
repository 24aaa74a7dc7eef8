pub mod OutcomeLemmas
pub mod CompleteLemmas
