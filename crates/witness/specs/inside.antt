-- What a search keeps from turn to turn; types and the clauses of single turns name it.
pub mod Places
pub mod Searching
pub use Places.{Known, IsKnownWithin}
pub use Searching.{waiting_of, waiting_cmp, Knows, Reaches, IsKnownNode, IsKnownAt, WaitsAt, IsFresh, IsSameRound, TakesWalk, Leaves, IsWalkOffered, HasParent, IsRelaxed, IsSearch, IsBusy, NobodyBusy, left_of, work, AreLower, IsEdgeClosed, NobodyWaitsWithin, IsSame, IsNext, IsEdgePut}
