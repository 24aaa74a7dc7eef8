pub mod Same
pub mod RunLemmas
mod BoardTies
mod FreshTies
mod LetterTies
pub mod PlaceTies
