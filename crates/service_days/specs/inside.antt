pub mod Numbers
pub use Numbers.{number_of_date}
