-- The days on which the services of a feed run.
use Rattle.std.specs.Prelude.{◌≡◌, ℕ, List, [], ◌∷◌, Bool, true, false, not, ◌&&◌, nat_lt, bytes_eq, filter, map, Option, None, Some, if◌then◌else◌}
use Rattle.plan_base.specs.{contains_day, DaySet}
use Rattle.service_days.specs.{date_of, numbers_of, runs_on, ServiceRule, DaysMeaning.DaysMeaning}
use Rattle.gtfs_tables.specs.{FeedLists.FeedLists, DateRow, ServiceRow}

-- the weekly rule of a service, if it has one
abbrev pub rule_of : List ServiceRow → List ℕ → Option ServiceRule
rule_of [] id = None
rule_of (service ∷ services) id = if bytes_eq service.id id then Some service.rule else rule_of services id

-- whether a row adds a date to a service, or removes one from it
abbrev pub is_change : Bool → DateRow → Bool
is_change true row = row.added
is_change false row = not row.added

-- the dates that are added to a service, or those that are removed from it
unfoldable pub dates_of : Bool → List ℕ → List DateRow → List ℕ
dates_of added id rows = map (λ row. row.date) (filter (λ row. bytes_eq id row.id) (filter (is_change added) rows))

-- a service with this rule and these dates runs on these days of a region
abbrev pub AreDaysBy : DaysMeaning → Option ServiceRule → List ℕ → List ℕ → DaySet → Type 0
AreDaysBy days rule added removed set = (day : ℕ) → contains_day set day ≡ (nat_lt day (numbers_of days) && runs_on rule added removed (date_of days day))

-- the days of a region on which a service runs; one that no table names runs on none
pub record AreDaysOf (feed : FeedLists) (days : DaysMeaning) (id : List ℕ) (set : DaySet) : Type 0 where
  pub runs : AreDaysBy days (rule_of feed.services id) (dates_of true id feed.dates) (dates_of false id feed.dates) set
