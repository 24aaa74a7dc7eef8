pub mod CompleteLemmas
