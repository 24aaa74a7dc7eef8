pub mod BoardLemmas
pub mod BuildLemmas
pub mod CountLemmas
pub mod DayLemmas
pub mod PatternLemmas
pub mod RunLemmas
pub mod TripLemmas
pub mod RideLemmas
pub mod TableLemmas
pub mod ReadLemmas
mod DayRunLemmas
mod HeadLemmas
