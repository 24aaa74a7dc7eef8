pub mod CountedLemmas
pub mod RideLemmas
pub mod RoundLemmas
pub mod FoundLemmas
pub mod TextLemmas
