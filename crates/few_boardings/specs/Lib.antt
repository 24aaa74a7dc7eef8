pub mod Counted
pub mod CountedLaws
pub mod Counting
pub mod CountingLaws
pub mod Boardings
pub mod Blocks
pub mod Rounds
pub use Counted.{Side, AtMost, AtLeast, is_transit, transits, IsOnSide, reads_on, may_end_with, state_at, counted, AcceptsCounted}
pub use CountedLaws.{added, added_road, added_transit, inner_of, count_of, count_small, state_below, inner_below, count_after, after_small, KeepsWithin, inner_after, count_there, step_out, step_in, to_below}
pub use Boardings.{FewRow, is_ride, rides, IsListedArrival, IsFewRow, AreFewRows, HasNoneByFew, IsPrintableFewRow}
pub use Blocks.{AreBoardingsTold, IsFewText, IsFewBlock}
pub use Rounds.{Found, IsCountedFor, IsFoundUnpacked, IsLeastFound, IsLeastBelow, is_later, with_fewer_rides, rides_left, HasRowAsGood, IsOpen, AreRowsSoFar}
