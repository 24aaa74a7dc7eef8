pub mod Requests
pub mod Commands
pub mod Complete
pub use Requests.{IsReply}
pub use Commands.{SaysRequests}
pub use Complete.{CanRequests, RequestsCompletes}
