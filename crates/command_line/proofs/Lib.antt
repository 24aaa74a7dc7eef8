pub mod WordSteps
pub mod PlainLemmas
pub mod NameLemmas
