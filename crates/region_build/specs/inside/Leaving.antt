-- When and how often trips leave, by arithmetic alone.
use Rattle.std.specs.Prelude.{◌≡◌, ℕ, ◌+◌, ◌-◌, List, [], ◌∷◌, max, min, length, sum_by}
use Rattle.gtfs_tables.specs.{CallRow, FrequencyRow}
use Rattle.region_build.specs.{Copies.departing, Copies.departures_by, Copies.departures_of, Copies.first_departure, Copies.leaves_of, Sources.SourceLists, declared.headways.CopyCounts.CopyCounts}

-- the latest of these times and t
abbrev pub latest_of : ℕ → List CallRow → ℕ
latest_of t [] = t
latest_of t (call ∷ calls) = latest_of (max t (max call.arr call.dep)) calls

-- a copy is kept that leaves before this time
abbrev pub kept_before : List CallRow → ℕ
kept_before calls = 604800 + first_departure calls - latest_of 0 calls

-- when a trip leaves by a row of frequencies.txt and before this time
unfoldable pub leaves_by : ℕ → FrequencyRow → List ℕ
leaves_by before row = departing (row.end - row.start) row.start (min row.end before) row.headway

-- how often it leaves so by these rows, and how often it would leave by them
pub record AreRowCounts (before : ℕ) (rows : List FrequencyRow) (counts : CopyCounts) : Type 0 where
  pub kept : counts.kept ≡ sum_by (λ row. length (leaves_by before row)) rows
  pub all : counts.all ≡ sum_by (λ row. length (departures_by row)) rows

-- how many copies of a trip are kept, and how many there are with those that are late
pub record AreCopyCounts (source : SourceLists) (counts : CopyCounts) : Type 0 where
  pub kept : counts.kept ≡ length (leaves_of source)
  pub all : counts.all ≡ length (departures_of source)
