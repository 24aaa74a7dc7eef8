-- calendar_dates.txt
use Rattle.std.specs.Prelude.{ℕ, List, [], ◌∷◌, Bool, true, bytes_eq, nat_eq, ◌&&◌, Some, Result, Ok}
use Rattle.plan_base.specs.{Caps}
use Rattle.plan_base.specs.declared.limits.Kind.TheVariants as kind
use Rattle.gtfs_tables.specs.declared.columns.Column.TheVariants as column
use Rattle.gtfs_tables.specs.{declared.faults.FeedFault.FeedFault, declared.dates.DateRow.DateRow, Forms.added_at, TableRows.TableRow, TableRows.id_in, TableRows.value_in, Answers.◌>>=◌, Tables.Table}
use Rattle.gtfs_tables.specs.declared.files.FeedFile.TheVariants as file
use Rattle.service_days.specs.{date_at}

abbrev pub date_in : TableRow → Result DateRow FeedFault
date_in row = do
  id ← id_in row column.ServiceId
  date ← value_in date_at row column.Date
  added ← value_in added_at row column.ExceptionType
  Ok (record { row = row.number; id = id; date = date; added = added })

-- the key of a row: a service with a date
abbrev pub service_date_of : DateRow → List ℕ × ℕ
service_date_of date = (date.id, date.date)

abbrev pub is_same_pair : List ℕ × ℕ → List ℕ × ℕ → Bool
is_same_pair pair other = bytes_eq pair.0 other.0 && nat_eq pair.1 other.1

abbrev pub dates : Caps → Table DateRow DateRow
dates caps = record {
  file = file.CalendarDates;
  needed = column.ServiceId ∷ column.Date ∷ column.ExceptionType ∷ [];
  reads = date_in;
  has_key_of = λ date earlier. is_same_pair (service_date_of date) (service_date_of earlier);
  refers = λ date. [];
  has_zone_of = λ date first. true;
  gives = Some;
  limit = Some (kind.Dates, caps.dates);
}
