-- The days on which a service runs.
use Rattle.std.specs.Prelude.{ℕ, Bool, false, not, List, Option, None, Some, ◌&&◌, ◌||◌, ◌==◌, nat_le, slice_index_or}
use Rattle.std.specs.List.{list_any}
use Rattle.jiff_core.specs.Calendar.{weekday_number}
use Rattle.service_days.specs.Dates.{epoch_day_of}
pub use Rattle.service_days.specs.declared.services.ServiceRule.{ServiceRule}

-- the day of the week of a date, from 0 for Monday
abbrev pub weekday_on : ℕ → ℕ
weekday_on date = weekday_number (epoch_day_of date)

-- the date's weekday is one of the rule's, and the date lies in its range
abbrev pub follows_rule : Option ServiceRule → ℕ → Bool
follows_rule None date = false
follows_rule (Some rule) date =
    slice_index_or rule.weekdays (weekday_on date) false && (nat_le rule.first date && nat_le date rule.last)

abbrev pub is_date_among : List ℕ → ℕ → Bool
is_date_among dates date = list_any (λ other. other == date) dates

-- a service runs on the dates of its rule but the removed ones, and on the added ones
abbrev pub runs_on : Option ServiceRule → List ℕ → List ℕ → ℕ → Bool
runs_on rule added removed date = is_date_among added date || (follows_rule rule date && not (is_date_among removed date))
