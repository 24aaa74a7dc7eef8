pub mod RunLemmas
pub mod PassLemmas
