pub mod Numbers
pub mod Reading
pub use Numbers.{number_front, signed_front, signed_bytes}
pub use Reading.{Halt, Memory, Left, ◌>>=◌, or_left, one, with_first, HaltsAs}
