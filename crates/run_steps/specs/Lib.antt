pub mod Scene
pub mod Sayings
pub mod Regions
pub mod QueryLines
pub mod Blocks
pub mod InTurn
pub mod Certificates
pub mod Complete
pub mod Statuses
pub mod Working
pub mod CertificateCauses
pub mod inside
pub use Scene.{SayingOf, scene_of, scene, with_shelf}
pub use Sayings.{FileRole, Region, Hierarchy, Outcome, Done, Missing, ReadFault, TooLong, WriteFault, OutOfMemory, Saying, end_of, most_bytes, most_of, IsUnreadable, IsUnread, Ends, OnFile, HasWritten, Writes, WritesText}
pub use Regions.{BadRegion, AreFull, SpellThis, OnNetwork, OnRegion}
pub use QueryLines.{without_return, as_query, queries_among, query_lines}
pub use Blocks.{BlockRule, AreBlocks, BeginsNext, WroteBlocks, WroteFront, WrotePart, AreCounted}
pub use InTurn.{IsReadTo, HasReadTo, IsShort, HasReadLines, most_file_places, IsEndless, IsLost, StopsInTurn, HasAnswered, AnswersFile}
pub use Certificates.{Certificate, Invalid, BadCertificate, CertificateKind, OnCertificate, TellsValid, SaysVerified}
pub use Complete.{Files, IsHeld, AreLinesHeld, SpellsNetwork, IsRegionHeld, IsDoneOrMemory, IsQuiet, Completes}
pub use Statuses.{Usage, BadFeed, BadHierarchy, Unsound, status_of}
pub use Working.{outcome_of, HasRegion, region_outcome, IsRegionOutcome, IsTextOutcome}
pub use CertificateCauses.{IsUnverified}
