-- How many trips of a feed, and copies of them, do not run in a region, and why.
use Rattle.std.specs.Prelude.{◌≡◌, ℕ, List, length, count_by, sum_by, Bool, not, ◌&&◌, nat_eq, nat_le, nat_lt}
use Rattle.std.specs.List.{list_all}
use Rattle.service_days.specs.DaysMeaning.{DaysMeaning}
use Rattle.gtfs_tables.specs.FeedLists.{FeedLists}
use Rattle.region_build.specs.{Copies.departures_of, Copies.is_kept, Copies.runs, Sources.AreTripSources, Sources.SourceLists}
pub use Rattle.region_build.specs.declared.left.LeftOut.{LeftOut}

-- fewer than two calls
abbrev pub is_short : SourceLists → Bool
is_short source = nat_lt (length source.calls) 2

-- two calls or more, and no day of the region
abbrev pub is_idle : SourceLists → Bool
is_idle source = nat_le 2 (length source.calls) && nat_eq source.days.0 0

-- it would run, but has a headway without exact times
abbrev pub is_inexact : SourceLists → Bool
is_inexact source = runs source && not (list_all (λ row. row.exact) source.frequencies)

-- the copies with a time past 167:59:59
abbrev pub late_copies : SourceLists → ℕ
late_copies source = count_by (λ leave. not (is_kept source leave)) (departures_of source)

pub record AreLeft (sources : List SourceLists) (left : LeftOut) : Type 0 where
  pub short : left.short ≡ count_by is_short sources
  pub idle : left.idle ≡ count_by is_idle sources
  pub inexact : left.inexact ≡ count_by is_inexact sources
  pub late : left.late ≡ sum_by late_copies sources

-- of the trips of a feed over some days
pub record AreLeftOut (feed : FeedLists) (days : DaysMeaning) (left : LeftOut) : Type 0 where
  pub sources : List SourceLists
  pub said : AreTripSources feed days sources
  pub are : AreLeft sources left
