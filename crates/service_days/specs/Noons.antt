-- The bases in a zone, by the instants of `jiff`.
use Rattle.std.specs.Prelude.{◌≡◌, ℕ, ◌+◌, ◌/◌, ◌<◌, List, Some, ℤ, pos, ◌-ℤ◌, unsigned_abs}
use Rattle.jiff_core.specs.Date.{IsYmd}
use Rattle.jiff_core.specs.Time.{time_nanos}
use Rattle.jiff_core.specs.declared.civil.datetime.DateTime.{DateTime}
use Rattle.jiff_tz.specs.Ambiguous.{compatible_offset, instant_of}
use Rattle.jiff_tz.specs.PosixReader.{read_whole}
use Rattle.jiff_tz.specs.PosixRule.{ambiguous_at}
use Rattle.jiff_tz.specs.PosixText.{tz_view}
use Rattle.jiff_tz.specs.declared.posix.TimeZone.{TimeZone}
use Rattle.service_days.specs.{DaysMeaning.DaysMeaning, Dates.year_of, Dates.month_of, Dates.day_of_month, Days.base_of, Days.date_of}

-- noon of a date on the wall clock
pub record IsNoonOf (date : ℕ) (at : DateTime) : Type 0 where
  pub date_is : IsYmd (pos (year_of date)) (pos (month_of date)) (pos (day_of_month date)) at.date
  pub time_is : time_nanos at.time ≡ 43200000000000

-- the instant that the rule of `jiff` gives a wall clock's time, by its compatible choice
abbrev pub instant_in : TimeZone → DateTime → ℤ
instant_in zone at = instant_of at (compatible_offset (ambiguous_at zone at))

-- in the zone that `jiff` reads in the rule, each base is the instant of its day's noon less that of day 0, in milliseconds
abbrev pub CountFromNoons : List ℕ → DaysMeaning → Type 0
CountFromNoons rule days =
    (zone : TimeZone) → read_whole rule ≡ Some (tz_view zone) → (day : ℕ) → day < days.count + 7 → (at start : DateTime)
    → IsNoonOf (date_of days day) at → IsNoonOf (date_of days 0) start
    → base_of days day ≡ unsigned_abs (instant_in zone at -ℤ instant_in zone start) / 1000000
