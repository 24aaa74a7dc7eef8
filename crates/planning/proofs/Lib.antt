pub mod AnyGraph
pub mod PlanLemmas
mod LimitLemmas
pub mod ArrivalLemmas
pub mod DestinationLemmas
