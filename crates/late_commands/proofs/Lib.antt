pub mod OutputLemmas
pub mod CompleteLemmas
pub mod CertifyLemmas
