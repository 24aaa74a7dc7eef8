-- A table of a feed is a file of comma-separated values whose first row, the header, names the columns. What is
-- told here holds of every table; the tables differ in their columns, their keys and what they refer to.
use Rattle.std.specs.Prelude.{ℕ, ◌+◌, ◌≤◌, List, [], ◌∷◌, ◌++◌, length, filter_map, Bool, true, nat_lt, Option, None, Some, option_map, Result, Ok, if◌then◌else◌}
use Rattle.std.specs.Option.{option_or}
use Rattle.std.specs.List.{list_any}
use Rattle.csv.specs.Reading.{default_config, records, strip_bom}
use Rattle.plan_base.specs.{Kind}
use Rattle.gtfs_tables.specs.{declared.columns.Column.Column, declared.files.FeedFile.FeedFile, declared.faults.FeedFault.FeedFault, declared.faults.FeedFault.TheVariants.MissingColumn, declared.faults.FeedFault.TheVariants.RepeatedKey, declared.faults.FeedFault.TheVariants.DanglingKey, declared.faults.FeedFault.TheVariants.MixedZones, declared.faults.FeedFault.TheVariants.TooMany, Answers.◌>>=◌, Answers.faultless, Columns.Row, Columns.first_missing, TableRows.TableRow}

-- the rules of a table whose rows say an F each, and give a record R or nothing
pub record Table (F R : Type 0) : Type 0 where
  pub file : FeedFile
  -- the columns that the header must name, in the order in which they are missed
  pub needed : List Column
  -- what a row says, or the fault of the first column whose field is not of its form
  pub reads : TableRow → Result F FeedFault
  -- the rows have one key
  pub has_key_of : F → F → Bool
  -- the columns that have ids of other tables, and whether the row's id is a key there
  pub refers : F → List (Column × Bool)
  -- the rows have one time zone
  pub has_zone_of : F → F → Bool
  -- the record of the row, where it gives one
  pub gives : F → Option R
  -- how many records of which kind there may be, where that is limited
  pub limit : Option (Kind × ℕ)

-- the first column whose id is no key of its table
abbrev pub first_dangling : List (Column × Bool) → Option Column
first_dangling [] = None
first_dangling (reference ∷ references) = if reference.1 then first_dangling references else Some reference.0

abbrev pub has_first_zone : {F R : Type 0} → Table F R → List F → F → Bool
has_first_zone t [] f = true
has_first_zone t (first ∷ others) f = t.has_zone_of f first

-- so many records are within a limit, where there is one; or what there are too many of
abbrev pub IsWithinLimit : Option (Kind × ℕ) → ℕ → Type 0
IsWithinLimit None count = Unit {0}
IsWithinLimit (Some limit) count = count ≤ limit.1

abbrev pub limit_fault : Option (Kind × ℕ) → ℕ → Option FeedFault
limit_fault None count = None
limit_fault (Some limit) count = if nat_lt limit.1 count then Some (TooMany limit.0) else None

-- the fault of what a row says behind the earlier rows of its table
abbrev pub row_fault : {F R : Type 0} → Table F R → TableRow → List F → F → Option FeedFault
row_fault t row earlier f =
    option_or (if list_any (t.has_key_of f) earlier then Some (RepeatedKey row.file row.number) else None)
    (option_or (option_map (DanglingKey row.file row.number) (first_dangling (t.refers f)))
    (option_or (if has_first_zone t earlier f then None else Some (MixedZones row.number))
    (limit_fault t.limit (length (filter_map t.gives (earlier ++ f ∷ []))))))

-- what a row says behind the earlier rows, or its fault
abbrev pub judged : {F R : Type 0} → Table F R → List F → TableRow → Result F FeedFault
judged t earlier row = t.reads row >>= (λ f. faultless (row_fault t row earlier f) f)

-- the row of these fields behind so many earlier rows; the header is row 1
abbrev pub row_of : {F R : Type 0} → Table F R → Row → ℕ → Row → TableRow
row_of t header earlier fields = record { file = t.file; number = earlier + 2; header = header; fields = fields }

-- what all rows say, in turn, or the first fault
abbrev pub rows_behind : {F R : Type 0} → Table F R → Row → List F → List Row → Result (List F) FeedFault
rows_behind t header earlier [] = Ok earlier
rows_behind t header earlier (row ∷ rows) = judged t earlier (row_of t header (length earlier) row) >>= (λ f. rows_behind t header (earlier ++ f ∷ []) rows)

-- the records of these rows
abbrev pub given : {F R : Type 0} → Table F R → Result (List F) FeedFault → Result (List R) FeedFault
given t all = all >>= (λ fs. Ok (filter_map t.gives fs))

-- the first row is the header, which names no column where there is none; the others stand below
abbrev pub header_in : List Row → Row
header_in [] = []
header_in (header ∷ rows) = header

abbrev pub rows_below : List Row → List Row
rows_below [] = []
rows_below (header ∷ rows) = rows

abbrev pub missing_column : FeedFile → List Column → Row → Option FeedFault
missing_column file needed header = option_map (MissingColumn file) (first_missing header needed)

-- the records of the rows of a file
abbrev pub table_of : {F R : Type 0} → Table F R → List Row → Result (List R) FeedFault
table_of t rows =
    faultless (missing_column t.file t.needed (header_in rows)) (header_in rows)
    >>= (λ header. given t (rows_behind t header [] (rows_below rows)))

-- the rows of a file: one byte-order mark before the header is dropped
unfoldable pub rows_of_file : List ℕ → List Row
rows_of_file text = records default_config (strip_bom text)

-- the records of a table, or its first fault; a file that is not there gives none
abbrev pub records_of : {F R : Type 0} → Table F R → Option (List ℕ) → Result (List R) FeedFault
records_of t None = Ok []
records_of t (Some text) = table_of t (rows_of_file text)
