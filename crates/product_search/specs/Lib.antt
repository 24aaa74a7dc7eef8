pub mod Reach
pub mod Listed
pub mod Answer
pub mod Arrivals
pub mod Closed
pub mod Limits
pub mod Questions
pub mod inside
pub use Reach.{IsReachedAt, IsLeastAt, IsWithin, IsBefore, IsToList}
pub use Listed.{Label, label_of, label_cmp, label_order, IsBelow, AreAscendingLabels, AreLeastLabels, HasLeastLabels}
pub use Answer.{Hop, Walk, IsArrival, IsHop, AreWalkHops, IsWalkTo, IsWalkFor, last_time, IsByLastTime}
pub use Arrivals.{IsArrivalAt, AreArrivals}
pub use Closed.{LabelVerdict, Open, IsListedBy, IsInOrderAt, start_states, pairs_at, start_pairs, IsPairListed, StartIsListedAt, IsNoEndAt, ArcIsListed, ArcsAreListedAt, IsClosed, IsVerdict, NoneArrivesBefore, AllListed, FailsAt}
pub use Limits.{IsLabel, HasMoreLabels, StopsAreDue}
pub use Questions.{QuestionMeaning, FindsArrival, FindsWalk, ListsLabels, CountsLabels, ListsClosed, HasMore}
