pub mod CompleteLemmas
pub mod SizeLemmas
