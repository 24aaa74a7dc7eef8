-- What single steps of rounds do; types and the clauses of private calls name it.
pub mod Rows
pub mod Asking
pub mod Climbs
pub mod Firsts
pub mod Walks
pub mod Visits
pub mod Riding
pub mod Settled
pub mod Listing
pub mod Notes
pub use Rows.{row_of, cell, never, HaveShape, AreLowered, IsRowLowered}
pub use Asking.{Asked, AskedMeaning, asked_of, Reaches, IsLayerOf}
pub use Climbs.{ClimbsTo, HasClimb, Climb, IsClimbedBy, AreClimbs, Rung, nodes_of_rungs, AreClimbDelays, IsClimbedBehind, IsPassed, IsClimbedFrom, AreClimbedAll, AreClimbsOf}
pub use Firsts.{AreFirstsOf, AreFirsts, IsStartLabel, IsFirstTurn, IsClimbIn, IsClimbLabel}
pub use Walks.{Turn, IsTurn, AreTurns, node_at, IsWalkReached, AreWalksReached, IsWalkClosed, AreCrossingsReached, IsFed, IsReturned, IsWalked, AreWalkedBelow, AreWalksClosed, IsWalkOf, IsTakenIn, IsFedBy, IsGivenBack}
pub use Visits.{crossing_node, IsCrossedBy, IsRoadOrNone, IsVisited, AreVisited, WayReaches, WayIsCrossed, AreCrossedOn, AreVisiting}
pub use Riding.{IsLineOf, IsRideAlong, IsCaught, IsRiddenAlong, AreRidden, AreRiding, arrival_way, time_after}
pub use Settled.{HaveCrossed, HaveWalked, HaveRoom, AreSettled, IsWalkLabel, IsCrossingLabel, AreLabelsOf}
pub use Listing.{AddsLabels, IsOfAny, IsRowLabel}
pub use Notes.{IsOfLabel, IsOfSource, IsNotedIn, IsNotedAt}
