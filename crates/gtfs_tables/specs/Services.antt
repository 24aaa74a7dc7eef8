-- calendar.txt
use Rattle.std.specs.Prelude.{List, [], ◌∷◌, Bool, true, bytes_eq, Some, Result, Ok}
use Rattle.plan_base.specs.{Caps}
use Rattle.plan_base.specs.declared.limits.Kind.TheVariants as kind
use Rattle.service_days.specs.{ServiceRule, date_at}
pub use Rattle.gtfs_tables.specs.declared.columns.Column.TheVariants.{ServiceId, Monday, Tuesday, Wednesday, Thursday, Friday, Saturday, Sunday, StartDate, EndDate}
use Rattle.gtfs_tables.specs.{declared.faults.FeedFault.FeedFault, declared.services.ServiceRow.ServiceRow, Forms.flag_at, TableRows.TableRow, TableRows.id_in, TableRows.value_in, Answers.◌>>=◌, Tables.Table}
use Rattle.gtfs_tables.specs.declared.files.FeedFile.TheVariants as file

-- the weekdays, Monday first
abbrev pub weekdays_in : TableRow → Result (List Bool) FeedFault
weekdays_in row = do
  monday ← value_in flag_at row Monday
  tuesday ← value_in flag_at row Tuesday
  wednesday ← value_in flag_at row Wednesday
  thursday ← value_in flag_at row Thursday
  friday ← value_in flag_at row Friday
  saturday ← value_in flag_at row Saturday
  sunday ← value_in flag_at row Sunday
  Ok (monday ∷ tuesday ∷ wednesday ∷ thursday ∷ friday ∷ saturday ∷ sunday ∷ [])

abbrev pub rule_in : TableRow → Result ServiceRule FeedFault
rule_in row = do
  weekdays ← weekdays_in row
  first ← value_in date_at row StartDate
  last ← value_in date_at row EndDate
  Ok (record { weekdays = weekdays; first = first; last = last })

abbrev pub service_in : TableRow → Result ServiceRow FeedFault
service_in row = do
  id ← id_in row ServiceId
  rule ← rule_in row
  Ok (record { row = row.number; id = id; rule = rule })

abbrev pub services : Caps → Table ServiceRow ServiceRow
services caps = record {
  file = file.Calendar;
  needed = ServiceId ∷ Monday ∷ Tuesday ∷ Wednesday ∷ Thursday ∷ Friday ∷ Saturday ∷ Sunday ∷ StartDate ∷ EndDate ∷ [];
  reads = service_in;
  has_key_of = λ service earlier. bytes_eq service.id earlier.id;
  refers = λ service. [];
  has_zone_of = λ service first. true;
  gives = Some;
  limit = Some (kind.Services, caps.services);
}
