-- What was read of the tables of a feed, in two parts.
use Rattle.std.specs.Prelude.{◌≡◌, [], map, None}
use Rattle.plan_base.specs.{Caps}
use Rattle.gtfs_tables.specs.{declared.feeds.Basis.Basis, declared.feeds.Runs.Runs, declared.files.FeedFiles.FeedFiles, Agencies.agencies, FeedLists.FeedLists, FeedLists.bytes_of, Feeds.first_absent, Feeds.required, inside.Holding.AreRead}
use Rattle.gtfs_tables.specs.Stops as Stops
use Rattle.gtfs_tables.specs.Routes as Routes
use Rattle.gtfs_tables.specs.Services as Services
use Rattle.gtfs_tables.specs.ServiceDates as Dates
use Rattle.gtfs_tables.specs.Trips as Trips
use Rattle.gtfs_tables.specs.Frequencies as Frequencies
use Rattle.gtfs_tables.specs.Calls as Calls

-- no file is absent that must be there, and those down to the dates were read
pub record IsBasis (caps : Caps) (files : FeedFiles) (basis : Basis) : Type 0 where
  pub present : first_absent (required files) ≡ None
  pub agencies : AreRead agencies (bytes_of files.agency) []
  pub stops : AreRead (Stops.stops caps) (bytes_of files.stops) basis.stops.rows.items
  pub stop_ids : basis.stops.ids ≡ map (λ stop. stop.id) basis.stops.rows.items
  pub routes : AreRead (Routes.routes caps) (bytes_of files.routes) basis.routes.rows.items
  pub route_ids : basis.routes.ids ≡ map (λ route. route.id) basis.routes.rows.items
  pub services : AreRead (Services.services caps) (bytes_of files.calendar) basis.services.items
  pub dates : AreRead (Dates.dates caps) (bytes_of files.calendar_dates) basis.dates.items

-- those from the trips on were read
pub record AreTripTables (caps : Caps) (files : FeedFiles) (basis : Basis) (runs : Runs) : Type 0 where
  pub trips : AreRead (Trips.trips caps basis.routes.ids) (bytes_of files.trips) runs.trips.rows.items
  pub trip_ids : runs.trips.ids ≡ map (λ trip. trip.id) runs.trips.rows.items
  pub frequencies : AreRead (Frequencies.frequencies runs.trips.ids) (bytes_of files.frequencies) runs.frequencies.items
  pub calls : AreRead (Calls.calls caps runs.trips.ids basis.stops.ids) (bytes_of files.stop_times) runs.calls.items

-- the rows of all tables
abbrev pub feed_rows : Basis → Runs → FeedLists
feed_rows basis runs = record { stops = basis.stops.rows.items; routes = basis.routes.rows.items; services = basis.services.items; dates = basis.dates.items; trips = runs.trips.rows.items; frequencies = runs.frequencies.items; calls = runs.calls.items }
