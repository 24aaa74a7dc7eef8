-- The days of a region. Seven lead days stand before the first date, so day number k is that date and k - 7 days.
use Rattle.std.specs.Prelude.{◌≡◌, ℕ, zero, suc, ◌+◌, ◌*◌, ◌^◌, ◌<◌, ◌≤◌, Bool, true, List, map, length, Option, None, Result, Ok, Err, ◌&&◌, ◌==◌, nat_le, if◌then◌else◌, slice_index, pos, ◌+ℤ◌, position}
use Rattle.std.specs.List.{range_with_len}
use Rattle.service_days.specs.{DaysMeaning.DaysMeaning, Dates.year_of, Dates.is_civil, Dates.epoch_day_of, Dates.later_date, Dates.earlier_date, Rising.Rise}
pub use Rattle.service_days.specs.{declared.range.RangeFault.RangeFault, declared.range.RangeFault.TheVariants.BadDate, declared.range.RangeFault.TheVariants.BadCount, declared.range.RangeFault.TheVariants.BadZone, declared.range.RangeFault.TheVariants.OutOfMemory}

-- how many day numbers there are
abbrev pub numbers_of : DaysMeaning → ℕ
numbers_of days = days.count + 7

abbrev pub base_of : DaysMeaning → ℕ → ℕ
base_of days day = slice_index days.bases day

abbrev pub date_of : DaysMeaning → ℕ → ℕ
date_of days day = slice_index days.dates day

-- the day number that has this date
abbrev pub day_with_date : DaysMeaning → ℕ → Option ℕ
day_with_date days date = position (λ other. other == date) days.dates

-- the greatest place up to this one whose base is not later than t, or 0
unfoldable pub last_not_later : List ℕ → ℕ → ℕ → ℕ
last_not_later bases t zero = 0
last_not_later bases t (suc k) = if nat_le (slice_index bases (suc k)) t then suc k else last_not_later bases t k

-- the greatest day number whose base is not later than t
abbrev pub day_at : DaysMeaning → ℕ → ℕ
day_at days t = last_not_later days.bases t (days.count + 6)

-- the date of a day number, where the first date is this one
abbrev pub date_on : ℕ → ℕ → ℕ
date_on first day = later_date day (earlier_date 7 first)

-- days without a zone rule have 24 hours each
abbrev pub plain_days : ℕ → ℕ → DaysMeaning
plain_days first count = record {
  first = first;
  count = count;
  bases = map (λ day. 86400000 * day) (range_with_len 0 (count + 7));
  dates = map (date_on first) (range_with_len 0 (count + 7));
  zone = None;
}

-- a civil date of the years 1900 to 2199
abbrev pub is_first_date : ℕ → Bool
is_first_date date = is_civil date && (nat_le 1900 (year_of date) && nat_le (year_of date) 2199)

-- one to sixty days
abbrev pub is_day_count : ℕ → Bool
is_day_count count = nat_le 1 count && nat_le count 60

-- what a first date and a count give: days, or what is wrong with them
abbrev pub new_days : ℕ → ℕ → Result DaysMeaning RangeFault
new_days first count =
    if is_first_date first then (if is_day_count count then Ok (plain_days first count) else Err BadCount)
    else Err BadDate

-- why days were refused; that memory ran out needs no cause
abbrev pub IsDaysRefusal : Result DaysMeaning RangeFault → RangeFault → Type 0
IsDaysRefusal made OutOfMemory = Unit {0}
IsDaysRefusal made BadDate = made ≡ Err BadDate
IsDaysRefusal made BadCount = made ≡ Err BadCount
IsDaysRefusal made BadZone = made ≡ Err BadZone

-- what is true of all days: so much must every day number have
pub record AreDays (days : DaysMeaning) : Type 0 where
  pub some : 1 ≤ days.count
  pub few : days.count ≤ 60
  pub bases_long : length days.bases ≡ days.count + 7
  pub dates_long : length days.dates ≡ days.count + 7
  -- the clock begins at the base of day 0, and a day has 22 to 26 hours
  pub start : base_of days 0 ≡ 0
  pub not_short : (day : ℕ) → day < days.count + 6 → base_of days day + 79200000 ≤ base_of days (day + 1)
  pub not_long : (day : ℕ) → day < days.count + 6 → base_of days (day + 1) ≤ base_of days day + 93600000
  -- without a rule it has 24
  pub even : days.zone ≡ None → (day : ℕ) → day < days.count + 7 → base_of days day ≡ 86400000 * day
  -- the dates are the civil dates in a row, and day 7 is the first date
  pub first_is : is_first_date days.first ≡ true
  pub on : (day : ℕ) → day < days.count + 7 → date_of days day ≡ date_on days.first day

-- and what follows for each two days: bases and dates rise, and the dates are the civil dates in a row
pub record AreRisingDays (days : DaysMeaning) : Type 0 where
  pub bases_rise : Rise days.bases
  pub bases_small : (day : ℕ) → day < days.count + 7 → base_of days day < 2 ^ 40
  pub dates_rise : Rise days.dates
  pub civil : (day : ℕ) → day < days.count + 7 → is_civil (date_of days day) ≡ true
  pub eight_digits : (day : ℕ) → day < days.count + 7 → (10 ^ 7 ≤ date_of days day) × (date_of days day < 10 ^ 8)
  pub in_a_row : (day : ℕ) → day < days.count + 7 → epoch_day_of (date_of days day) +ℤ pos 7 ≡ epoch_day_of days.first +ℤ pos day
