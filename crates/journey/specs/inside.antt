pub mod Shown
pub mod Telling
pub mod Words
pub use Shown.{shape_shown}
pub use Telling.{IsTold}
pub use Words.{appended, with_letter}
