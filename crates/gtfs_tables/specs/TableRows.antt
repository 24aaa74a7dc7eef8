-- The rows of tables below their headers, and the values of their fields.
use Rattle.std.specs.Prelude.{ℕ, List, [], unwrap_or, Option, option_and_then, Result, ok_or}
use Rattle.csv.specs.Records.{field_at}
use Rattle.gtfs_tables.specs.{declared.columns.Column.Column, declared.files.FeedFile.FeedFile, declared.faults.FeedFault.FeedFault, declared.faults.FeedFault.TheVariants.BadField, Columns.Row, Columns.place_of_column, Forms.feed_id_at, Forms.trimmed}

-- a row of a file: its number, where the header is row 1, the header, and the fields of the row
pub record TableRow : Type 0 where
  pub file : FeedFile
  pub number : ℕ
  pub header : Row
  pub fields : Row

-- The field of a row in a column. It is empty where the header does not name the column, and where the row ends
-- before it.
unfoldable pub field_in : TableRow → Column → List ℕ
field_in row column = unwrap_or (option_and_then (field_at row.fields) (place_of_column row.header column)) []

-- The id in a column, which is taken as it stands, or the fault of a field that is none.
abbrev pub id_in : TableRow → Column → Result (List ℕ) FeedFault
id_in row column = ok_or (feed_id_at (field_in row column)) (BadField row.file row.number column)

-- What a field of this form says in a column, or the fault of a field that is not of the form. The spaces at both
-- ends are dropped first.
abbrev pub value_in : {A : Type 0} → (List ℕ → Option A) → TableRow → Column → Result A FeedFault
value_in form row column = ok_or (form (trimmed (field_in row column))) (BadField row.file row.number column)
