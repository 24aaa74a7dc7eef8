pub mod WordLemmas
pub mod MoveLemmas
pub mod JourneyLemmas
pub mod RoadLemmas
pub mod ArcLemmas
pub mod MarkLemmas
mod FallLemmas
pub mod GraphLemmas
pub mod PlaceLemmas
pub mod LegLemmas
pub mod GraphMoves
mod WayTies
pub mod WalkedLemmas
pub mod InUseLemmas
