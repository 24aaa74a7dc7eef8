pub mod Commands
pub mod Outcomes
pub mod Complete
pub mod inside
pub use Commands.{says}
pub use Outcomes.{IsOutcome}
pub use Complete.{CanBeDone}
