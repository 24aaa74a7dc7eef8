pub mod Shapes
pub mod Faults
pub mod Queries
pub mod CopyLists
pub mod Ends
pub mod Boarded
pub mod Rides
pub mod Real
pub mod Texts
pub mod Blocks
pub mod Best
pub mod Reading
pub mod Large
pub mod Alike
pub mod inside
pub use Shapes.{QueryFault, BadClock, OutOfRange, at_byte, at_space, place_at, near_in_at, endpoint_of, Fields, fields_of, Shape, is_filled, shape_of_fields, shape_of, part_at, millis_at, time_at, departure_on, departs_on, departs_at}
pub use Faults.{UnknownFrom, UnknownTo, TooLong, TooDeep, Syntax, TooLarge, OffNetwork, OutOfMemory, Lack, Unknown, Far, number_of, origin_fault, destination_fault, fault_of}
pub use Queries.{IsKnown, IsUnknown, IsFar, IsLack, Departs, ReachesExpression, IsQuery, IsRefused, IsRefusal}
pub use CopyLists.{AreTheCopies}
pub use Ends.{StepEnd, HasTime, HasTimes, AreTaken}
pub use Boarded.{DepartsAt, AreOnTime, BoardsOnTime}
pub use Rides.{AllowedRide, NamedRide, KeepsRules, letter_and_stop, IsAllowed}
pub use Real.{IsFirstBad, IsReal, FirstBad, AlwaysLeadsTo, EndsAt, IsSpelt, HasWord}
pub use Texts.{letter_text, IsThere, key_text, node_text, place_text, ride_text, step_text, AreTold, word_text, IsJourneyText, refusal_text, block_text}
pub use Blocks.{BlockBody, Journey, Nothing, Refused, IsPrintable, IsPrintableBody, IsFramed, IsBlockText, AddsText}
pub use Best.{Query, Asked, asked_by, Answers, IsBest, HasNone, Asks, IsRefusedBlock, IsAnsweredBlock, IsRightBlock, IsRightBody, IsBlock, IsBoardedBody, IsToldBlock}
pub use Reading.{IsReading, ReadingIsUnique}
pub use Large.{IsLarge, IsSmall, IsUnder, IsBlockUnder, stopped_block, IsLargeIfAny}
pub use Alike.{EndOfStep, AreStepEnds, AreAlikeJourneys, FitsInCertificate, BlockFixesItsJourney, EachPrintedIsBest}
