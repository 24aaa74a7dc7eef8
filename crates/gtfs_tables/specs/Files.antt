-- The names of a feed's files.
use Rattle.std.specs.Prelude.{ℕ, List, codes}
pub use Rattle.gtfs_tables.specs.declared.files.FeedFile.{FeedFile}
use Rattle.gtfs_tables.specs.declared.files.FeedFile.TheVariants as file

-- the name of a file in the feed's folder
abbrev pub file_name : FeedFile → List ℕ
file_name file.Agency = codes "agency.txt"
file_name file.Stops = codes "stops.txt"
file_name file.Routes = codes "routes.txt"
file_name file.Calendar = codes "calendar.txt"
file_name file.CalendarDates = codes "calendar_dates.txt"
file_name file.Trips = codes "trips.txt"
file_name file.Frequencies = codes "frequencies.txt"
file_name file.StopTimes = codes "stop_times.txt"
