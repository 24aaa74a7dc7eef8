pub mod Books
pub mod Keepers
pub mod Memory
pub mod Given
pub mod Requests
pub mod Statuses
pub mod Sayings
pub mod Reports
pub mod Reviews
pub mod Rules
pub mod Commands
pub mod Complete
pub mod Outcomes
pub mod Laws
pub mod Runs
pub mod Working
pub use Books.{Book, kept, dropped, AreNamesOf}
pub use Keepers.{KeepFault, KeeperMeaning, Tells, Becomes, BookStays, IsKeepFault}
pub use Memory.{book_of}
pub use Given.{nothing_given, is_option, with_fail, with_hierarchy, with_plain, with_word, given_by, given_view}
pub use Requests.{Recheck, Review, BookRequest, book_request_of, book_commands, request_by, request_in_words, AsksOfBook, keep, drop, list, show, report}
pub use Statuses.{BookOutcome, Common, Absent, NotWell}
pub use Sayings.{book_end_of, IsUntouched, EndsBy, OnBoth, IsCertificateOutcome, Changes, BookWrites, ThenDone}
pub use Reports.{IsListing, ClaimRule, IsSaidOn, IsSaidOf, AreReported, ReportRule, HasReported, IsReport, end_by, IsReported, verdict_words, IsJudged}
pub use Reviews.{kept_arrival, beside, arrival_words, IsAnswered, IsReviewed}
pub use Rules.{report_rule, rule_of}
pub use Commands.{book_says}
pub use Complete.{AreHeld, CanBeDoneByBook, IsDoneOrAbsent}
pub use Outcomes.{IsBookOutcome}
pub use Laws.{HoldsOfOneText, IsFixedEnd, ReportsAreFixed, StartsAt, ValidIsSame}
pub use Runs.{Change, changed, book_after, Run, Does, RunsFold, keeps, drops, nothing}
pub use Working.{outcome_of_keeper, ended_by}
