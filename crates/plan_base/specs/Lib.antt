pub mod CapsByKind
pub mod Counts
pub mod DaySets
pub mod FullCaps
pub mod LetterNames
pub mod Limits
pub mod MemoryAnswers
pub mod MemoryFiles
pub mod MemoryStates
pub mod Modes
pub mod PlaceOf
pub mod Places
pub mod ReadCauses
pub mod ReadFaults
pub mod Disks
pub mod ShelfCauses
pub mod Shelves
pub mod Sinks
pub use CapsByKind.{Caps, Kind, Nodes, Arcs, Links, Stops, Trips, Calls, OsmNodes, Ways, Refs, cap_of}
pub use Counts.{Rose}
pub use DaySets.{DaySet, contains_day}
pub use FullCaps.{full_cap_of}
pub use LetterNames.{road_names, transit_names, letter_names}
pub use MemoryAnswers.{ShelfError, count_after}
pub use Modes.{Mode, Foot, Bike, Car, number_of_mode, mode_numbered, mode_named}
pub use PlaceOf.{Place, shown, place_of}
pub use ReadCauses.{ReadFault}
pub use ReadFaults.{read_fault_of}
pub use Disks.{DiskFiles, IsRest}
pub use ShelfCauses.{HasCause}
pub use Shelves.{ShelfMeaning, IsLater, Told, AreBytesAt, Gave, HasRead}
pub use Sinks.{SinkMeaning, Appended, Stays, AppendedPart}
