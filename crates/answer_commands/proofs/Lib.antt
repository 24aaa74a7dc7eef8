pub mod LentLemmas
pub mod SettledLemmas
pub mod BlockLemmas
pub mod CertifyLemmas
pub mod CompleteLemmas
pub mod BothLemmas
