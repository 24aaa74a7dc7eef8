pub mod Exploring
pub mod MoveTables
pub mod Noting
pub mod Places
pub mod Searching
pub mod Trail
pub mod Queued
pub mod Waiting
pub use Exploring.{IsNoLater, reached_by, IsTakenAs, Offers, IsGiven, IsGivenIn, IsReachedIfWanted, way_by, IsByLeg, IsByLegs, IsByLegsIn, LegIsReached, IsByWay, IsByWays, WayIsReached, AreGivenReached, IsSuccessor, ArcIsReached, IsStartAt, IsStartAmong, StartIsReached}
pub use MoveTables.{HasLettersBelow, HasLeavingBelow, target_by, targets_below, AreMovesBelow, HasLetters, HasLeaving, AreMoves, AreTargets, AreTargetsWith}
pub use Noting.{time_by, time_of, AreReached, earlier, IsNoted, IsEndNoted, IsNotedBy, IsEndNotedBy, IsArrivalBy, AreNoted, AreAllTimes}
pub use Places.{IsPlaced, ArePlaces}
pub use Searching.{IsFromStart, IsBehind, IsTracedTo, IsTraced, AreTraced, IsDone, IsSearching, IsScanning, IsEndAt, IsNoEndAt, IsOfWay, IsEnd, until_of, GoesTo, end_arrival, IsSearched, EndsWith, IsAnswered, label_of_row, HasMoreBefore}
pub use Trail.{HasParents, IsWayTo, IsWayAt, IsTrailHop, AreTrail, IsBackTo, IsTrailTo, IsTrailIfAny}
pub use Queued.{begin_at, begin_of, bucket_of, IsLater, bucketed_len, queue_len, AreBuckets, IsPast, IsQueue, IsEmptyQueue, TakesIn, Gives, PutsAt, PutsLater, Moves, Turns, Narrows}
pub use Waiting.{rows, ways, IsAt, IsNowhere, IsApart, chain_of, chain_in, IsLast, IsClear, HasChainsFrom, IsIndexed, delay_at, IsWanted, IsReachedBy, IsLastWay, Waits, IsFrontier, taken_as, IsSameBut, Rearranges, IsReady, PutsAgain, GivesItem, IsScanOf, IsPassedOver, Takes, TakesNone}
