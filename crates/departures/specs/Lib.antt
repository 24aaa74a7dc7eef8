pub mod Departures
pub mod Laws
pub mod Fastest
pub mod LeastArcs
pub mod Blocks
pub mod inside
pub use Departures.{Pair, Row, IsRidden, IsPair, IsUndominated, IsWithout, IsShorter, IsListed, AreDepartures, SetsOff, IsRow, pair_of, AreRows}
pub use Laws.{DeparturesAreUnique, WithoutIsTheSame, first_from, IsAsLong, IsBeforeOthers, IsNoEarlier, DeparturesMissNothing}
pub use Fastest.{FastestCall, fastest_call, ride_ms, least_ms, IsNoFaster, NoneIsFaster}
pub use LeastArcs.{least_arrival, least_meaning}
pub use Blocks.{AreRowsTold, IsProfileText, IsProfileBlock}
