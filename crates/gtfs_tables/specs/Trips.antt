-- trips.txt
use Rattle.std.specs.Prelude.{ℕ, List, [], ◌∷◌, true, bytes_eq, position, is_some, Option, option_map, Result, Ok, Some}
use Rattle.plan_base.specs.{Caps}
use Rattle.plan_base.specs.declared.limits.Kind.TheVariants as kind
pub use Rattle.gtfs_tables.specs.declared.columns.Column.TheVariants.{TripId}
use Rattle.gtfs_tables.specs.{declared.columns.Column.TheVariants.RouteId, declared.columns.Column.TheVariants.ServiceId, declared.faults.FeedFault.FeedFault, declared.trips.TripRow.TripRow, TableRows.TableRow, TableRows.id_in, Answers.◌>>=◌, Tables.Table}
use Rattle.gtfs_tables.specs.declared.files.FeedFile.TheVariants as file

-- the place of an id in a list of ids
abbrev pub place_among : List (List ℕ) → List ℕ → Option ℕ
place_among ids id = position (bytes_eq id) ids

-- what a row says
pub record TripLine : Type 0 where
  pub row : ℕ
  pub id : List ℕ
  pub route : List ℕ
  pub service : List ℕ

abbrev pub trip_line_in : TableRow → Result TripLine FeedFault
trip_line_in row = do
  id ← id_in row TripId
  route ← id_in row RouteId
  service ← id_in row ServiceId
  Ok (record { row = row.number; id = id; route = route; service = service })

-- a trip with the place of its route
abbrev pub trip_over : TripLine → ℕ → TripRow
trip_over line route = record { row = line.row; id = line.id; route = route; service = line.service }

abbrev pub trip_of : List (List ℕ) → TripLine → Option TripRow
trip_of routes line = option_map (trip_over line) (place_among routes line.route)

-- the trips over routes of these ids
abbrev pub trips : Caps → List (List ℕ) → Table TripLine TripRow
trips caps routes = record {
  file = file.Trips;
  needed = TripId ∷ RouteId ∷ ServiceId ∷ [];
  reads = trip_line_in;
  has_key_of = λ line earlier. bytes_eq line.id earlier.id;
  refers = λ line. (RouteId, is_some (place_among routes line.route)) ∷ [];
  has_zone_of = λ line first. true;
  gives = trip_of routes;
  limit = Some (kind.Trips, caps.trips);
}
