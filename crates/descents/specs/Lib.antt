pub mod Served
pub mod Over
pub mod Descents
pub mod Falls
pub mod NodeArrivals
pub mod inside
pub use Served.{IsServedOn}
pub use Over.{AreRoundsOver}
pub use Descents.{AreDescents, IsServed, AreStarts}
pub use Falls.{EntryLeadsDown, IsEndAt, DescendsBy}
pub use NodeArrivals.{IsNodeArrival, AreNodeArrivals}
