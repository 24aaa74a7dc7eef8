pub mod UnpackLemmas
pub mod TakenLemmas
pub mod PhaseLemmas
