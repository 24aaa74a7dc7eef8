pub mod Reading
pub mod Digits
pub mod Numbers
pub mod Hexadecimal
pub mod FixedDecimal
pub mod Names
pub mod Escape
pub mod Lines
pub mod Course
pub use Reading.{IsReadBy}
pub use Digits.{digit_of, more}
pub use Numbers.{number_step, digits_at, value_step, minus, IsId, id_at}
unfoldable pub use Numbers.{number_at, value_at, signed_at}
pub use Hexadecimal.{glyph, IsHexadecimal, hexadecimal_digit_of, hexadecimal_step, first_hexadecimal}
unfoldable pub use Hexadecimal.{hexadecimal, hexadecimal_at}
pub use FixedDecimal.{IsFixed, fixed_step}
unfoldable pub use FixedDecimal.{fixed_decimal, fixed_at}
pub use Names.{is_name_byte, name_of}
unfoldable pub use Names.{is_name}
pub use Escape.{is_plain, code_of, escaped_byte}
unfoldable pub use Escape.{escaped}
pub use Lines.{is_feed, is_space, lines_of_pieces, IsLine, IsWord, with_feed, lines_text, around}
unfoldable pub use Lines.{pieces, lines_of, next_line_of, split_line_of, words_of, spaced}
pub use Course.{onto, ended, go_on, lines_from, run_on, CannotStand, IsFirstBad, IsWhole, BytesFollow, IsTrailing, whole, bad, trailing}
