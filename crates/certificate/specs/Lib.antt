pub mod Certificates
pub mod Lines
pub mod Kinds
pub mod Sections
pub mod Texts
pub mod Making
pub mod Reading
pub mod Valid
pub mod Claimed
pub mod Verdicts
pub mod StateSets
pub mod Checks
pub mod Walked
pub use Certificates.{Claim}
pub use Lines.{Line, graph_name, step_words, label_words, words, spelled, IsTime, HasLabelTime, FitsStep, FitsLabel, FitsLine}
pub use Kinds.{number_of_word, time_of_word, bare, phases_of_word, by_first_word, label_or_kind, query_word, query_or_words}
unfoldable pub use Kinds.{label_of_words, head_of_words, graph_of_words, arrive_of_words, start_of_words, wait_of_words, to_of_words, ride_of_words, labels_of_words, line_of_kind, line_of_words, behind_query, line_of}
pub use Sections.{Due, due_behind, is_last}
pub use Texts.{result_lines, label_lines, front_lines, cert_lines, FitsResult, FitsCertificate, IsCertText}
unfoldable pub use Texts.{cert_text}
pub use Making.{CertFault, BadLine, OutOfMemory, made_by, LinedMeaning, reading, Gives, IsCause}
unfoldable pub use Making.{line_at}
pub use Reading.{nothing, put, cert_meaning, HasCause}
unfoldable pub use Reading.{cert_of}
pub use Valid.{Setting, ResultHolds, claimed_arrival, IsValid, HaveTimes, IsBestResult, Proves, ValidProves}
pub use Claimed.{CertVerdict, Invalid, By, Goal, IsTimely, StartsWell, FailsFirstOfThree, IsFirstFailing, JourneyFails, IsAsClaimed, IsClaimVerdict}
pub use Verdicts.{claim_on, AreDenoted, LineFails, goal_of, IsResultVerdict, as_verdict, IsCertVerdict, VerdictIsUnique}
pub use StateSets.{KnownStep, IsInSet, AreAdded, HasMoveBelow, HasMoveFrom, IsStateAfter, LeadsTo, IsKnownStep, AreKnown, IsKept, AreAfter}
pub use Checks.{JourneyCheck, IsSetUp}
pub use Walked.{IsWalkedTo}
