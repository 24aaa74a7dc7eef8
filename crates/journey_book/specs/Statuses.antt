-- The exit status of each outcome.
use Rattle.std.specs.Prelude.{ℕ}
use Rattle.run_steps.specs.{status_of as common_status}
pub use Rattle.journey_book.specs.{declared.outcome.BookOutcome.BookOutcome, declared.outcome.BookOutcome.TheVariants.Common, declared.outcome.BookOutcome.TheVariants.Absent, declared.outcome.BookOutcome.TheVariants.NotWell}
use Rattle.journey_book.specs.declared.outcome.BookOutcome.TheVariants.{KeepFault}

abbrev pub book_status_of : BookOutcome → ℕ
book_status_of (Common outcome) = common_status outcome
book_status_of KeepFault = 14
book_status_of Absent = 15
book_status_of NotWell = 16
