-- The columns that were found in a header.
use Rattle.std.specs.Prelude.{◌≡◌, ◌<◌, ℕ, List, Option, length, get_or}
use Rattle.gtfs_tables.specs.{declared.columns.Column.Column, Columns.Row, Columns.place_of_column}

-- each column stands where it was found
abbrev pub AreFound : Row → List (Column × Option ℕ) → Type 0
AreFound header found = (k : ℕ) (d : Column × Option ℕ) → k < length found → (get_or found k d).1 ≡ place_of_column header (get_or found k d).0
