-- stops.txt
use Rattle.std.specs.Prelude.{ℕ, List, [], ◌∷◌, Bool, true, bytes_eq, Option, None, option_map, Result, Ok, if◌then◌else◌, Some}
use Rattle.geo_length.specs.{degrees_of}
use Rattle.plan_base.specs.PlaceOf as base
use Rattle.plan_base.specs.{Caps, Place}
use Rattle.plan_base.specs.declared.limits.Kind.TheVariants as kind
pub use Rattle.gtfs_tables.specs.declared.columns.Column.TheVariants.{StopId, LocationType, StopLat, StopLon}
use Rattle.gtfs_tables.specs.{declared.faults.FeedFault.FeedFault, declared.stops.StopRow.StopRow, Forms.is_usual_at, TableRows.TableRow, TableRows.id_in, TableRows.value_in, Answers.◌>>=◌, Tables.Table}
use Rattle.gtfs_tables.specs.declared.files.FeedFile.TheVariants as file

-- what a row says: a stop has a place
pub record Location : Type 0 where
  pub row : ℕ
  pub id : List ℕ
  pub place : Option Place

abbrev pub place_of_stop : TableRow → Result (Option Place) FeedFault
place_of_stop row = do
  lat ← value_in (degrees_of 90) row StopLat
  lon ← value_in (degrees_of 180) row StopLon
  Ok (base.place_of lat lon)

-- the place of a stop; that of another location is not looked at
abbrev pub place_if_stop : TableRow → Bool → Result (Option Place) FeedFault
place_if_stop row is_stop = if is_stop then place_of_stop row else Ok None

-- A row is that of a stop where its location type is empty or 0.
abbrev pub location_in : TableRow → Result Location FeedFault
location_in row = do
  id ← id_in row StopId
  is_stop ← value_in (is_usual_at 4) row LocationType
  place ← place_if_stop row is_stop
  Ok (record { row = row.number; id = id; place = place })

abbrev pub stop_of : Location → Option StopRow
stop_of location = option_map (λ place. record { row = location.row; id = location.id; place = place }) location.place

abbrev pub stops : Caps → Table Location StopRow
stops caps = record {
  file = file.Stops;
  needed = StopId ∷ StopLat ∷ StopLon ∷ [];
  reads = location_in;
  has_key_of = λ location earlier. bytes_eq location.id earlier.id;
  refers = λ location. [];
  has_zone_of = λ location first. true;
  gives = stop_of;
  limit = Some (kind.Stops, caps.stops);
}
