-- agency.txt: all rows have one time zone.
use Rattle.std.specs.Prelude.{ℕ, Bool, true, Some, List, [], ◌∷◌, bytes_eq, false, Option, None}
pub use Rattle.gtfs_tables.specs.declared.columns.Column.TheVariants.{AgencyTimezone}
use Rattle.gtfs_tables.specs.declared.files.FeedFile.TheVariants as file
use Rattle.gtfs_tables.specs.{TableRows.id_in, Tables.Table}

-- a row says its time zone, and gives no record
abbrev pub agencies : Table (List ℕ) (List ℕ)
agencies = record {
  file = file.Agency;
  needed = AgencyTimezone ∷ [];
  reads = λ row. id_in row AgencyTimezone;
  has_key_of = λ zone earlier. false;
  refers = λ zone. [];
  has_zone_of = λ zone first. bytes_eq zone first;
  gives = λ zone. None;
  limit = None;
}

-- the first time zone of some rows, and whether another is the same
abbrev pub first_zone : List (List ℕ) → Option (List ℕ)
first_zone [] = None
first_zone (zone ∷ zones) = Some zone

abbrev pub is_first : Option (List ℕ) → List ℕ → Bool
is_first None zone = true
is_first (Some first) zone = bytes_eq zone first
