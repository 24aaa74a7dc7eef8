pub mod Texts
pub use Texts.{line_text, name_at, named_line, line_in, node_in, trip_in, head_in, trip_records}
