-- Clock texts: YYYYMMDD HH:MM:SS.mmm, with more digits of hours where they are needed.
use Rattle.std.specs.Prelude.{ℕ, ◌-◌, ◌/◌, ◌%◌, List, ◌∷◌, ◌++◌, nat_lt, if◌then◌else◌, decimal}
use Rattle.plain_texts.specs.{fixed_decimal}
use Rattle.service_days.specs.{DaysMeaning.DaysMeaning, Days.base_of, Days.date_of, Days.day_at}

-- at least two digits
abbrev pub hours_text : ℕ → List ℕ
hours_text hours = if nat_lt hours 100 then fixed_decimal 2 hours else decimal hours

-- a mark and a part of so many digits after it
abbrev pub part_text : ℕ → ℕ → ℕ → List ℕ
part_text mark width part = mark ∷ fixed_decimal width part

-- so many milliseconds as hours, minutes, seconds and milliseconds
abbrev pub time_text : ℕ → List ℕ
time_text ms =
    hours_text (ms / 3600000) ++ part_text 58 2 (ms / 60000 % 60) ++ part_text 58 2 (ms / 1000 % 60)
    ++ part_text 46 3 (ms % 1000)

-- the date of the greatest day whose base is not later than t, and the time since that base
abbrev pub clock_text_of : DaysMeaning → ℕ → List ℕ
clock_text_of days t =
    fixed_decimal 8 (date_of days (day_at days t)) ++ 32 ∷ time_text (t - base_of days (day_at days t))
