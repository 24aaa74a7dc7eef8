-- The rows that a reader of comma-separated values has left.
use Rattle.std.specs.Prelude.{◌≡◌, ◌<◌, ◌+◌, ℕ, List, [], ◌∷◌, length, Bool, true, false, Option, None, Some, Result, Ok, Err}
use Rattle.std.specs.Borrow.{Bor}
use Rattle.csv.specs.Machine.{ends_at_end}
use Rattle.csv.specs.Reading.{Ready, default_config, error_kind, is_flexible, owned_rows_left, owned_rows_reader, reader_config, reader_state, reader_trim, records_from, source_of}
use Rattle.csv.specs.Records as Csv
use Rattle.csv.specs.Records.{fields_of}
use Rattle.csv.specs.declared.error.Error.{Error}
use Rattle.csv.specs.declared.error.ErrorKind.{ErrorKind}
use Rattle.csv.specs.declared.error.ErrorKind.TheVariants as kind
use Rattle.csv.specs.declared.iter.ByteRecordsIntoIter.{ByteRecordsIntoIter}
use Rattle.csv.specs.declared.parser.State.{State}
use Rattle.csv.specs.declared.reader.Reader.{Reader}
use Rattle.csv.specs.declared.reader.Trim.TheVariants as trim
use Rattle.gtfs_tables.specs.Columns.{Row}

abbrev pub Source : Type 0
Source = Bor (List ℕ)

-- the bytes that are left, where the reader has not failed
abbrev pub bytes_left : Reader Source → Option (List ℕ)
bytes_left reader = source_of (λ text. Some text.now) reader

-- the rows of the bytes that are left
abbrev pub rows_from : State → Option (List ℕ) → List Row
rows_from state None = []
rows_from state (Some bytes) = records_from default_config (length bytes + 1) state bytes

-- none where the last row was taken
abbrev pub rows_left : Bool → ByteRecordsIntoIter Source → List Row
rows_left true rows = []
rows_left false rows = rows_from (reader_state (owned_rows_reader rows)) (bytes_left (owned_rows_reader rows))

-- a reader of rows of any number of fields and without a header, which stands between two rows
pub record TakesRows (rows : ByteRecordsIntoIter Source) : Type 0 where
  pub config : reader_config (owned_rows_reader rows) ≡ default_config
  pub untrimmed : reader_trim (owned_rows_reader rows) ≡ trim.None
  pub flexible : is_flexible (owned_rows_reader rows) ≡ true
  pub left : 0 < owned_rows_left rows
  pub ready : Ready (owned_rows_reader rows)
  pub between : ends_at_end (reader_state (owned_rows_reader rows)) ≡ false
  pub bytes : List ℕ
  pub source : bytes_left (owned_rows_reader rows) ≡ Some bytes

-- unless the last row was taken
abbrev pub TakesRowsUnless : Bool → ByteRecordsIntoIter Source → Type 0
TakesRowsUnless true rows = Unit {0}
TakesRowsUnless false rows = TakesRows rows

-- an error of the source or of memory
abbrev pub IsWant : ErrorKind → Type 0
IsWant (kind.Io e) = Unit {0}
IsWant kind.OutOfMemory = Unit {0}
IsWant (kind.UnequalLengths pos expected len) = ⊥
IsWant (kind.Utf8 pos err) = ⊥
IsWant (kind.Serialize text) = ⊥
IsWant (kind.Deserialize pos err) = ⊥

-- a step of a reader gives the first row that is left and leaves the others, ends where none is left, or fails
-- for its source or for memory
abbrev pub HasStepped : ByteRecordsIntoIter Source → ByteRecordsIntoIter Source → Option (Result Csv.Row Error) → Type 0
HasStepped old new None = rows_left false old ≡ []
HasStepped old new (Some (Ok row)) = TakesRows new × (rows_left false old ≡ fields_of row ∷ rows_left false new)
HasStepped old new (Some (Err error)) = IsWant (error_kind error)
