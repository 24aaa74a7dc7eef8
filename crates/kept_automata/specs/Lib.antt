pub mod Texts
pub mod KnownLaws
pub use Texts.{IsMadeOfText, IsSpelledIn, behind_place, behind_space, expression_text}
pub use KnownLaws.{known_move, known_positions}
