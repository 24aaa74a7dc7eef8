-- Civil dates as numbers YYYYMMDD.
use Rattle.std.specs.Prelude.{ℕ, zero, suc, ◌+◌, ◌-◌, ◌*◌, ◌/◌, ◌%◌, Bool, ◌&&◌, nat_eq, nat_le, nat_lt, if◌then◌else◌, ℤ, pos, List, length, Option, Some, None, option_and_then}
use Rattle.plain_texts.specs.{fixed_at}
use Rattle.jiff_core.specs.Calendar.{days_in_month, days_from_civil}

-- the year, the month and the day of the month
abbrev pub year_of : ℕ → ℕ
year_of date = date / 10000

abbrev pub month_of : ℕ → ℕ
month_of date = date / 100 % 100

abbrev pub day_of_month : ℕ → ℕ
day_of_month date = date % 100

-- how many days its month has
abbrev pub month_length : ℕ → ℕ
month_length date = days_in_month (pos (year_of date)) (month_of date)

-- the calendar has this date, in one of the years 1 to 9999
abbrev pub is_civil : ℕ → Bool
is_civil date =
    nat_le 1 (year_of date) && nat_le (year_of date) 9999
    && (nat_le 1 (month_of date) && nat_le (month_of date) 12)
    && (nat_le 1 (day_of_month date) && nat_le (day_of_month date) (month_length date))

abbrev pub civil_date : ℕ → Option ℕ
civil_date date = if is_civil date then Some date else None

-- the date that a text of eight digits names
unfoldable pub date_at : List ℕ → Option ℕ
date_at text = if nat_eq (length text) 8 then option_and_then civil_date (fixed_at text) else None

-- the day number of a date: days since 1 January 1970
abbrev pub epoch_day_of : ℕ → ℤ
epoch_day_of date = days_from_civil (pos (year_of date)) (month_of date) (day_of_month date)

-- the next date
abbrev pub date_after : ℕ → ℕ
date_after date =
    if nat_lt (day_of_month date) (month_length date) then date + 1
    else (if nat_lt (month_of date) 12 then year_of date * 10000 + (month_of date + 1) * 100 + 1
    else (year_of date + 1) * 10000 + 101)

-- the date before
abbrev pub date_before : ℕ → ℕ
date_before date =
    if nat_lt 1 (day_of_month date) then date - 1
    else (if nat_lt 1 (month_of date)
    then year_of date * 10000 + (month_of date - 1) * 100 + days_in_month (pos (year_of date)) (month_of date - 1)
    else (year_of date - 1) * 10000 + 1231)

-- the date so many days later, and earlier
unfoldable pub later_date : ℕ → ℕ → ℕ
later_date zero date = date
later_date (suc n) date = date_after (later_date n date)

unfoldable pub earlier_date : ℕ → ℕ → ℕ
earlier_date zero date = date
earlier_date (suc n) date = date_before (earlier_date n date)
