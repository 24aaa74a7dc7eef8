pub mod FallLemmas
pub mod DelayLemmas
pub mod ListedLemmas
pub mod NodeLemmas
