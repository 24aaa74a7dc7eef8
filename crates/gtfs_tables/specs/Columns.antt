-- The columns of tables: their names, and where a header names them.
use Rattle.std.specs.Prelude.{ℕ, List, [], ◌∷◌, position, codes, bytes_eq, is_some, Option, None, Some, if◌then◌else◌}
pub use Rattle.gtfs_tables.specs.declared.columns.Column.{Column}
use Rattle.gtfs_tables.specs.declared.columns.Column.TheVariants as column

-- the fields of a row
abbrev pub Row : Type 0
Row = List (List ℕ)

-- the name of a column in a header
abbrev pub column_name : Column → List ℕ
column_name column.AgencyTimezone = codes "agency_timezone"
column_name column.StopId = codes "stop_id"
column_name column.LocationType = codes "location_type"
column_name column.StopLat = codes "stop_lat"
column_name column.StopLon = codes "stop_lon"
column_name column.RouteId = codes "route_id"
column_name column.RouteType = codes "route_type"
column_name column.ServiceId = codes "service_id"
column_name column.Monday = codes "monday"
column_name column.Tuesday = codes "tuesday"
column_name column.Wednesday = codes "wednesday"
column_name column.Thursday = codes "thursday"
column_name column.Friday = codes "friday"
column_name column.Saturday = codes "saturday"
column_name column.Sunday = codes "sunday"
column_name column.StartDate = codes "start_date"
column_name column.EndDate = codes "end_date"
column_name column.Date = codes "date"
column_name column.ExceptionType = codes "exception_type"
column_name column.TripId = codes "trip_id"
column_name column.StartTime = codes "start_time"
column_name column.EndTime = codes "end_time"
column_name column.HeadwaySecs = codes "headway_secs"
column_name column.ExactTimes = codes "exact_times"
column_name column.StopSequence = codes "stop_sequence"
column_name column.ArrivalTime = codes "arrival_time"
column_name column.DepartureTime = codes "departure_time"
column_name column.PickupType = codes "pickup_type"
column_name column.DropOffType = codes "drop_off_type"

-- where a column stands in a header: where its name stands twice the first counts
unfoldable pub place_of_column : Row → Column → Option ℕ
place_of_column header column = position (bytes_eq (column_name column)) header

-- the first of these columns that the header does not name
abbrev pub first_missing : Row → List Column → Option Column
first_missing header [] = None
first_missing header (column ∷ columns) = if is_some (place_of_column header column) then first_missing header columns else Some column
