-- Parts of the clauses, as the check decides them, and what it has met; the clauses of private calls name them.
pub mod Light
pub mod Meetings
pub use Light.{IsSumOver, CanStep, CanWalk, RiseIsBridged, FirstUnbridgedAt}
pub use Meetings.{IsFirstMeeting, AreMet}
