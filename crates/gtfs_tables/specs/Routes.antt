-- routes.txt
use Rattle.std.specs.Prelude.{[], ◌∷◌, true, bytes_eq, Some, Result, Ok}
use Rattle.plan_base.specs.{Caps}
use Rattle.plan_base.specs.declared.limits.Kind.TheVariants as kind
pub use Rattle.gtfs_tables.specs.declared.columns.Column.TheVariants.{RouteId, RouteType}
use Rattle.gtfs_tables.specs.{declared.faults.FeedFault.FeedFault, declared.routes.RouteRow.RouteRow, Forms.letter_of_type, Forms.up_to_nine_digits_at, TableRows.TableRow, TableRows.id_in, TableRows.value_in, Answers.◌>>=◌, Tables.Table}
use Rattle.gtfs_tables.specs.declared.files.FeedFile.TheVariants as file

abbrev pub route_in : TableRow → Result RouteRow FeedFault
route_in row = do
  id ← id_in row RouteId
  type ← value_in up_to_nine_digits_at row RouteType
  Ok (record { row = row.number; id = id; letter = letter_of_type type })

abbrev pub routes : Caps → Table RouteRow RouteRow
routes caps = record {
  file = file.Routes;
  needed = RouteId ∷ RouteType ∷ [];
  reads = route_in;
  has_key_of = λ route earlier. bytes_eq route.id earlier.id;
  refers = λ route. [];
  has_zone_of = λ route first. true;
  gives = Some;
  limit = Some (kind.Routes, caps.routes);
}
