pub mod CoreLemmas
pub mod SameLemmas
