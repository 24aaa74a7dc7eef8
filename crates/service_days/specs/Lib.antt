pub mod Clock
pub mod Dates
pub mod Days
pub mod DaysMeaning
pub mod Noons
pub mod ReadClock
pub mod Rising
pub mod Services
pub mod Zones
pub mod inside
pub use Clock.{hours_text, part_text, time_text, clock_text_of}
pub use Dates.{year_of, month_of, day_of_month, month_length, is_civil, epoch_day_of, date_after, date_before}
unfoldable pub use Dates.{date_at, later_date, earlier_date}
pub use Days.{RangeFault, BadDate, BadCount, BadZone, OutOfMemory, numbers_of, base_of, date_of, day_with_date, day_at, date_on, plain_days, is_first_date, is_day_count, new_days, IsDaysRefusal, AreDays, AreRisingDays}
unfoldable pub use Days.{last_not_later}
pub use Noons.{IsNoonOf, instant_in, CountFromNoons}
pub use ReadClock.{below_sixty, short_at, hundreds_at, after_space, moment_at, front_at, clock_at}
pub use Rising.{Rise}
pub use Services.{ServiceRule, runs_on}
pub use Zones.{Zone, summer_of, zone_of, shown_true, offset_from, day_time_from, summer_from, with_summer, read_zone, wall_noon, noon_offsets_by, noon_in, noon_on, zone_base, is_day_length, is_rule_text, dates_and_next, days_with_bases, days_in, days_in_read, zone_days, days_made, AreKept, RefusesLengths}
unfoldable pub use Zones.{have_day_lengths}
