-- What the files of a feed give, or their first fault.
use Rattle.std.specs.Prelude.{List, [], ◌∷◌, map, Bool, ◌||◌, is_some, Option, None, Some, option_map, Result, Ok, if◌then◌else◌}
use Rattle.plan_base.specs.{Caps}
use Rattle.gtfs_tables.specs.{declared.files.FeedFile.FeedFile, declared.faults.FeedFault.FeedFault, declared.faults.FeedFault.TheVariants.MissingFile, FeedLists.FeedLists, FeedLists.bytes_of, Answers.◌>>=◌, Answers.faultless, Tables.records_of, Agencies.agencies, Stops.stops, Routes.routes, Services.services, ServiceDates.dates, Trips.trips, Frequencies.frequencies, Calls.calls}
use Rattle.gtfs_tables.specs.declared.files.FeedFile.TheVariants as file
pub use Rattle.gtfs_tables.specs.declared.files.FeedFiles.{FeedFiles}

-- the files that must be there, and whether they are: one of the two calendar files suffices
abbrev pub required : FeedFiles → List (FeedFile × Bool)
required files =
    (file.Agency, is_some files.agency) ∷ (file.Stops, is_some files.stops) ∷ (file.Routes, is_some files.routes)
    ∷ (file.Calendar, is_some files.calendar || is_some files.calendar_dates)
    ∷ (file.Trips, is_some files.trips) ∷ (file.StopTimes, is_some files.stop_times) ∷ []

abbrev pub first_absent : List (FeedFile × Bool) → Option FeedFile
first_absent [] = None
first_absent (f ∷ fs) = if f.1 then first_absent fs else Some f.0

abbrev pub missing_file : FeedFiles → Option FeedFault
missing_file files = option_map MissingFile (first_absent (required files))

-- the tables in the order in which they are read
abbrev pub tables_of : Caps → FeedFiles → Result FeedLists FeedFault
tables_of caps files = do
  zones ← records_of agencies (bytes_of files.agency)
  stops ← records_of (stops caps) (bytes_of files.stops)
  routes ← records_of (routes caps) (bytes_of files.routes)
  services ← records_of (services caps) (bytes_of files.calendar)
  dates ← records_of (dates caps) (bytes_of files.calendar_dates)
  trips ← records_of (trips caps (map (λ route. route.id) routes)) (bytes_of files.trips)
  frequencies ← records_of (frequencies (map (λ trip. trip.id) trips)) (bytes_of files.frequencies)
  calls ← records_of (calls caps (map (λ trip. trip.id) trips) (map (λ stop. stop.id) stops)) (bytes_of files.stop_times)
  Ok (record { stops = stops; routes = routes; services = services; dates = dates; trips = trips; frequencies = frequencies; calls = calls })

-- the lists of a feed, or its first fault
unfoldable pub feed_of : Caps → FeedFiles → Result FeedLists FeedFault
feed_of caps files = faultless (missing_file files) files >>= tables_of caps
