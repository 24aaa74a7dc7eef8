mod NumberLaws
mod RangeLaws
mod RiseLaws
mod CornerLaws
mod RoadLaws
mod ArcLaws
mod StopLaws
mod LinkLaws
mod CityLaws
mod TripLaws
pub mod KeepLaws
