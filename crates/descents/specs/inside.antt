-- What single steps of a descent do; the clauses of private calls name it.
pub mod Delaying
pub use Delaying.{AreReachedBefore, IsKnownLabel, EndsAt, ReadsAgain, GoesOnAt, IsTopOf, IsFirst, AreDelays, IsMin, AreSwept, IsTimeAfter, IsDelayAt, AreTimesAfter}
