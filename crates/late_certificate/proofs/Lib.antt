mod KindLaws
mod SectionLaws
mod Again
mod Found
mod TextLemmas
pub mod ReadLaws
pub mod VerdictLemmas
pub mod VerifyLemmas
pub mod UniqueLemmas
