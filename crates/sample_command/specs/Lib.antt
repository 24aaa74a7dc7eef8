pub mod Queries
pub mod Times
pub mod Texts
pub mod Summary
pub use Queries.{sampled_queries}
unfoldable pub use Queries.{query_line, lines_before}
pub use Times.{Takes, IsTravelTime, AreTimes, time_from, labels_counted, total_time}
pub use Texts.{city_text, times_text}
pub use Summary.{IsSummary, SaysSample}
