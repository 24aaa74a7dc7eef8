pub mod Common
pub mod DiskLemmas
pub mod MoreRead
pub mod MoreWritten
pub mod PlaceAgain
