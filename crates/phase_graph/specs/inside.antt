pub mod Marking
pub mod Falls
pub use Marking.{number_at, HasNoFalls, AreClear, AreMarks, IsMarking, Extends, AreOldOr, IsFollowedAt, IsFollowed, AreListed, AreMarked}
pub use Falls.{fall_at, falls_from, IsFallFrom, IsFallAt, places_into, places_into_all, chained_at, IsChain, places_from, AreChains, HasFalls, fall_way}
