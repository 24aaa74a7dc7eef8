-- What a feed means: Feeds, with a page for each table, and Sound. The pages of inside tell what is kept while rows and tables are read.
pub mod Answers
pub mod Columns
pub mod Files
pub mod Forms
pub mod TableRows
pub mod Tables
pub mod FeedLists
pub mod Agencies
pub mod Stops
pub mod Routes
pub mod Services
pub mod ServiceDates
pub mod Trips
pub mod Frequencies
pub mod Calls
pub mod Feeds
pub mod Sound
pub mod inside
pub use Answers.{FeedFault, MissingFile, MissingColumn, BadField, RepeatedKey, DanglingKey, MixedZones, TooMany, OutOfMemory, ◌>>=◌, faultless, IsWantOr, IsFaultOf}
pub use Columns.{Column, Row, first_missing}
unfoldable pub use Columns.{place_of_column}
pub use Files.{FeedFile, file_name}
pub use Forms.{feed_id_at, positive, headway_at, added_at, is_usual_at, letter_of_type, minutes_and_seconds_at, hours_and_part, optional_time_at}
unfoldable pub use Forms.{is_id, trimmed, up_to_nine_digits_at, service_time_at}
pub use TableRows.{TableRow, id_in, value_in}
unfoldable pub use TableRows.{field_in}
pub use Tables.{Table, first_dangling, has_first_zone, IsWithinLimit, limit_fault, row_fault, judged, row_of, rows_behind, given, header_in, rows_below, missing_column, records_of}
unfoldable pub use Tables.{rows_of_file}
pub use FeedLists.{StopRow, RouteRow, ServiceRow, DateRow, TripRow, FrequencyRow, CallRow, bytes_of}
pub use Agencies.{agencies, first_zone, is_first}
pub use Stops.{StopId, Location, place_if_stop, stop_of, stops}
pub use Routes.{RouteId, routes}
pub use Services.{rule_in, services}
pub use ServiceDates.{service_date_of, is_same_pair, dates}
pub use Trips.{TripId, place_among, TripLine, trip_over, trip_of, trips}
pub use Frequencies.{Span, Frequency, span_in, frequency_in, frequency_over, frequency_of, frequencies}
pub use Calls.{Visit, Times, StopTime, times_of, times_in, visit_in, call_if_timed, call_between, call_row_of, references, calls, call_key_of, is_same_key, HasTrip}
pub use Feeds.{FeedFiles, required, first_absent, missing_file, tables_of}
unfoldable pub use Feeds.{feed_of}
pub use Sound.{IsFeedId, IsRoute, IsTrip, IsFrequency, IsCall, is_same_call, IsFeed}
