pub mod Lines
pub mod Kinds
pub mod Sections
pub mod Texts
pub mod Reading
pub mod Verdicts
pub mod Certified
pub use Lines.{Line, words, spelled, FitsLine}
pub use Kinds.{depart_of_words, usual_or_own}
unfoldable pub use Kinds.{own_of_words, line_of}
pub use Sections.{Due, due_behind, is_last}
pub use Texts.{front_lines, result_lines, late_lines, FitsLateResult, FitsLate, IsLateText}
unfoldable pub use Texts.{late_text}
pub use Reading.{nothing, put_usual, put, late_meaning, HasCause}
unfoldable pub use Reading.{late_of}
pub use Verdicts.{claim_on, HaveTimes, goal_of, IsResultVerdict, IsLateVerdict, LateVerdictIsUnique}
pub use Certified.{IsLateCertificateOf}
