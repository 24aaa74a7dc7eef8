pub mod PairLemmas
pub mod CellLemmas
pub mod CompleteLemmas
