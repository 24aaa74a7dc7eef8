-- Days in the zone of a POSIX rule. Which rules read, and which instants a wall clock shows, is what `jiff` states.
use Rattle.std.specs.Prelude.{◌≡◌, refl, ℕ, zero, suc, ◌+◌, ◌/◌, Bool, true, false, not, List, map, length, Option, None, Some, Result, Ok, Err, ◌&&◌, nat_eq, nat_le, if◌then◌else◌, slice_index, ℤ, pos, neg_ℤ, ◌+ℤ◌, ◌-ℤ◌, ◌*ℤ◌, int_le, unsigned_abs, option_and_then, option_map}
use Rattle.std.specs.List.{list_all, range_with_len}
use Rattle.jiff_core.specs.Timestamp.{nanos_of_seconds}
use Rattle.jiff_core.specs.declared.Offset.{Offset}
use Rattle.jiff_tz.specs.Ambiguous.{compatible_offset}
use Rattle.jiff_tz.specs.PosixDay.{is_rule_day}
use Rattle.jiff_tz.specs.PosixReader.{read_whole}
use Rattle.jiff_tz.specs.PosixRule.{ambiguous_by, rule_nanos}
use Rattle.jiff_tz.specs.PosixText.{DstText, TzText}
use Rattle.jiff_tz.specs.declared.ambiguous.AmbiguousOffset.{AmbiguousOffset}
use Rattle.jiff_tz.specs.declared.ambiguous.AmbiguousOffset.TheVariants.{Unambiguous}
use Rattle.jiff_tz.specs.declared.posix.Day.{Day}
use Rattle.jiff_tz.specs.declared.posix.DayTime.{DayTime}
use Rattle.jiff_tz.specs.declared.posix.Dst.{Dst}
use Rattle.jiff_tz.specs.declared.posix.TimeZone.{TimeZone}
use Rattle.plan_base.specs.{shown}
use Rattle.service_days.specs.{DaysMeaning.DaysMeaning, Dates.year_of, Dates.epoch_day_of, Days.AreDays, Days.date_on, Days.is_first_date, Days.is_day_count, Days.new_days, declared.range.RangeFault.RangeFault, declared.range.RangeFault.TheVariants.BadDate, declared.range.RangeFault.TheVariants.BadCount, declared.range.RangeFault.TheVariants.BadZone, declared.range.RangeFault.TheVariants.OutOfMemory}

-- what a zone's clock does: its offset in standard time, and in daylight saving time with the days on which that begins and ends
pub record Summer : Type 0 where
  pub offset : Offset
  pub start : DayTime
  pub finish : DayTime

pub record Zone : Type 0 where
  pub standard : Offset
  pub summer : Option Summer

-- the zone of a rule of `jiff`
abbrev pub summer_of : Dst → Summer
summer_of dst = record { offset = dst.offset; start = dst.rule.start; finish = dst.rule.end }

abbrev pub zone_of : TimeZone → Zone
zone_of rule = record { standard = rule.std_offset; summer = option_map summer_of rule.dst }

-- the same from the numbers that a text of a rule has
abbrev pub shown_true : (test : Bool) → Option (test ≡ true)
shown_true true = Some refl
shown_true false = None

abbrev pub offset_from : ℤ → Option Offset
offset_from seconds =
    option_and_then (λ low. option_map (λ high. record { seconds = seconds; in_range = (record { le = low }, record { le = high }) })
    (shown (int_le seconds (pos 93599))))
    (shown (int_le (neg_ℤ (pos 93599)) seconds))

abbrev pub day_time_from : Day × ℤ → Option DayTime
day_time_from day =
    option_and_then (λ date. option_and_then (λ low. option_map (λ high. record { date = day.0; time = day.1; date_in = date; time_in = (record { le = low }, record { le = high }) })
    (shown (int_le day.1 (pos 604799))))
    (shown (int_le (neg_ℤ (pos 604799)) day.1)))
    (shown_true (is_rule_day day.0))

abbrev pub summer_from : DstText → Option Summer
summer_from text =
    option_and_then (λ offset. option_and_then (λ start. option_map (λ finish. record { offset = offset; start = start; finish = finish })
    (day_time_from text.finish))
    (day_time_from text.start))
    (offset_from text.seconds)

abbrev pub with_summer : Offset → Option DstText → Option Zone
with_summer standard None = Some (record { standard = standard; summer = None })
with_summer standard (Some text) = option_map (λ summer. record { standard = standard; summer = Some summer }) (summer_from text)

abbrev pub zone_from : TzText → Option Zone
zone_from text = option_and_then (λ standard. with_summer standard text.dst) (offset_from text.std_seconds)

-- the zone that a POSIX rule spells, if it is one
abbrev pub read_zone : List ℕ → Option Zone
read_zone rule = option_and_then zone_from (read_whole rule)

-- noon of a date on the wall clock, in nanoseconds since it showed 1 January 1970
abbrev pub wall_noon : ℕ → ℤ
wall_noon date = epoch_day_of date *ℤ pos 86400000000000 +ℤ pos 43200000000000

-- the offsets that the zone has at noon of a date
abbrev pub noon_offsets_by : Offset → Option Summer → ℕ → AmbiguousOffset
noon_offsets_by standard None date = Unambiguous standard
noon_offsets_by standard (Some summer) date =
    ambiguous_by standard summer.offset
    (rule_nanos (pos (year_of date)) summer.start (pos 0), rule_nanos (pos (year_of date)) summer.finish (pos 0))
    (wall_noon date)

-- the instant of noon of a date in the zone, in nanoseconds since 1970: where the clock skips noon, or shows it
-- twice, by the offset before
abbrev pub noon_in : Zone → ℕ → ℤ
noon_in zone date = wall_noon date -ℤ nanos_of_seconds (compatible_offset (noon_offsets_by zone.standard zone.summer date)).seconds

-- the noon of day number k, where the dates are these
abbrev pub noon_on : Zone → List ℕ → ℕ → ℤ
noon_on zone dates day = noon_in zone (slice_index dates day)

-- a base is noon less 12 hours, less that of day 0, in milliseconds
abbrev pub zone_base : Zone → List ℕ → ℕ → ℕ
zone_base zone dates day = unsigned_abs (noon_on zone dates day -ℤ noon_on zone dates 0) / 1000000

-- from a noon to the next one there are 22 to 26 hours
abbrev pub is_day_length : ℤ → ℤ → Bool
is_day_length noon next = int_le (noon +ℤ pos 79200000000000) next && int_le next (noon +ℤ pos 93600000000000)

-- each of the first n days has 22 to 26 hours
unfoldable pub have_day_lengths : Zone → List ℕ → ℕ → Bool
have_day_lengths zone dates zero = true
have_day_lengths zone dates (suc n) = have_day_lengths zone dates n && is_day_length (noon_on zone dates n) (noon_on zone dates (n + 1))

-- one to 64 bytes that are printable and no space
abbrev pub is_rule_text : List ℕ → Bool
is_rule_text rule =
    not (nat_eq (length rule) 0) && nat_le (length rule) 64 && list_all (λ byte. nat_le 33 byte && nat_le byte 126) rule

-- the dates of all day numbers and of the day after the last
abbrev pub dates_and_next : ℕ → ℕ → List ℕ
dates_and_next first count = map (date_on first) (range_with_len 0 (count + 8))

abbrev pub days_with_bases : Zone → List ℕ → ℕ → ℕ → List ℕ → DaysMeaning
days_with_bases zone rule first count dates = record {
  first = first;
  count = count;
  bases = map (zone_base zone dates) (range_with_len 0 (count + 7));
  dates = map (date_on first) (range_with_len 0 (count + 7));
  zone = Some rule;
}

-- days in a zone, if each day number's day has 22 to 26 hours there
abbrev pub days_in : Zone → List ℕ → ℕ → ℕ → Result DaysMeaning RangeFault
days_in zone rule first count =
    if have_day_lengths zone (dates_and_next first count) (count + 7)
    then Ok (days_with_bases zone rule first count (dates_and_next first count)) else Err BadZone

abbrev pub days_in_read : Option Zone → List ℕ → ℕ → ℕ → Result DaysMeaning RangeFault
days_in_read None rule first count = Err BadZone
days_in_read (Some zone) rule first count = days_in zone rule first count

-- what a first date, a count and a zone rule give: days, or what is wrong with them
abbrev pub zone_days : ℕ → ℕ → List ℕ → Result DaysMeaning RangeFault
zone_days first count rule =
    if is_first_date first then
    (if is_day_count count then
    (if is_rule_text rule then days_in_read (read_zone rule) rule first count else Err BadZone)
    else Err BadCount)
    else Err BadDate

-- what a first date and a count give, with a zone rule or without
abbrev pub days_made : ℕ → ℕ → Option (List ℕ) → Result DaysMeaning RangeFault
days_made first count None = new_days first count
days_made first count (Some rule) = zone_days first count rule

-- what days keep: what is true of all days, and that their first date, their count and their zone rule give them
pub record AreKept (days : DaysMeaning) : Type 0 where
  pub are : AreDays days
  pub made : days_made days.first days.count days.zone ≡ Ok days

-- why bases were refused: a day is too short or too long
abbrev pub RefusesLengths : Bool → RangeFault → Type 0
RefusesLengths lengths BadZone = lengths ≡ false
RefusesLengths lengths OutOfMemory = Unit {0}
RefusesLengths lengths BadDate = ⊥
RefusesLengths lengths BadCount = ⊥
