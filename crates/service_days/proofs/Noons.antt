-- Noons are those that `jiff` states, and a rule that `jiff` reads gives its zone.
use Rattle.plan_base.proofs.Common.{◌≡◌, refl, sym, ap, ap₂, ℕ, Bool, true, false, T, Option, Some, None, arith, List, ℤ, pos, ◌+ℤ◌, ◌-ℤ◌, ◌*ℤ◌, int_le, neg_ℤ, unsigned_abs, Result, Ok, Err, IsSome, IfOk, ◌↔◌, option_map}
use Rattle.std.proofs.Common.{IsOk}
use Rattle.std.specs.Result.{result_ok}
use Rattle.jiff_core.specs.declared.error.Error.{Error}
use Rattle.jiff_core.specs.Date.{IsYmd, epoch_day}
use Rattle.jiff_core.specs.DateTime.{civil_nanos}
use Rattle.jiff_core.specs.Time.{time_nanos}
use Rattle.jiff_core.specs.declared.Offset.{Offset}
use Rattle.jiff_core.specs.declared.civil.date.Date.{Date}
use Rattle.jiff_core.specs.declared.civil.datetime.DateTime.{DateTime}
use Rattle.jiff_tz.specs.PosixDay.{is_rule_day}
use Rattle.jiff_tz.specs.PosixReader.{read_whole}
use Rattle.jiff_tz.specs.PosixRule.{ambiguous_at_by, ambiguous_by, rule_nanos}
use Rattle.jiff_tz.specs.PosixText.{TzText, tz_view, dst_view, day_time_view}
use Rattle.jiff_tz.specs.declared.posix.DayTime.{DayTime}
use Rattle.jiff_tz.specs.declared.posix.Dst.{Dst}
use Rattle.jiff_tz.specs.declared.posix.TimeZone.{TimeZone}
use Rattle.plan_base.specs.{shown}
use Rattle.std.proofs.Math.Bool.{Bool-set}
use Rattle.jiff_core.proofs.SignedLemmas.{signed_arith}
use Rattle.jiff_core.specs.Timestamp.{nanos_of_seconds}
use Rattle.jiff_tz.specs.Ambiguous.{compatible_offset}
use Rattle.jiff_tz.specs.declared.ambiguous.AmbiguousOffset.{AmbiguousOffset}
use Rattle.service_days.specs.{IsNoonOf, instant_in, year_of, month_of, day_of_month, epoch_day_of, Zone, summer_of, zone_of, shown_true, offset_from, day_time_from, summer_from, with_summer, read_zone, wall_noon, noon_offsets_by, noon_in}

pub epoch_day_is : (n : ℕ) (date : Date) → IsYmd (pos (year_of n)) (pos (month_of n)) (pos (day_of_month n)) date → epoch_day date ≡ epoch_day_of n
epoch_day_is n date is =
    let month : date.month ≡ month_of n = ap unsigned_abs is.1 in
    let day : date.day ≡ day_of_month n = ap unsigned_abs is.2 in
    rw (is.0, month, day) refl

-- the offsets at noon are those of the rule
pub noon_offsets_are : (standard : Offset) (dst : Option Dst) (n : ℕ) (at : DateTime) → at.date.year ≡ pos (year_of n) → civil_nanos at ≡ wall_noon n → ambiguous_at_by standard dst at ≡ noon_offsets_by standard (option_map summer_of dst) n
noon_offsets_are standard None n at year nanos = refl
noon_offsets_are standard (Some dst) n at year nanos =
    ap₂ (λ y noon. ambiguous_by standard dst.offset (rule_nanos y dst.rule.start (pos 0), rule_nanos y dst.rule.end (pos 0)) noon) year nanos

-- noon on the wall clock
pub wall_noon_is : (n : ℕ) (at : DateTime) → epoch_day at.date ≡ epoch_day_of n → time_nanos at.time ≡ 43200000000000 → civil_nanos at ≡ wall_noon n
unfolding civil_nanos
wall_noon_is n at day time = ap₂ (λ d t. d *ℤ pos 86400000000000 +ℤ pos t) day time

-- the same in whole seconds
pub noon_seconds_is : (day offset noon : ℤ) → noon ≡ (day *ℤ pos 86400) +ℤ pos 43200 -ℤ offset → (day *ℤ pos 86400000000000 +ℤ pos 43200000000000) -ℤ (offset *ℤ pos 1000000000) ≡ noon *ℤ pos 1000000000
noon_seconds_is day offset noon e = omega (arith, signed_arith, e)

shown_is : (test : Bool) (holds : T test) → shown test ≡ Some holds
shown_is true holds = refl
shown_is false holds = absurd holds

false_true : ◌≡◌ {A = Bool} false true → ⊥
false_true h = cc

same_path : (p q : ◌≡◌ {A = Bool} true true) → p ≡ q
same_path p q = Bool-set true true p q

shown_true_is : (test : Bool) (holds : test ≡ true) → shown_true test ≡ Some holds
shown_true_is true holds = ap Some (same_path refl holds)
shown_true_is false holds = absurd (false_true holds)

-- a value is the one of the numbers that it shows
offset_again : (offset : Offset) → offset_from offset.seconds ≡ Some offset
offset_again offset =
    rw (shown_is (int_le (neg_ℤ (pos 93599)) offset.seconds) offset.in_range.0.le, shown_is (int_le offset.seconds (pos 93599)) offset.in_range.1.le) refl

day_time_again : (day : DayTime) → day_time_from (day_time_view day) ≡ Some day
day_time_again day =
    rw (shown_true_is (is_rule_day day.date) day.date_in, shown_is (int_le (neg_ℤ (pos 604799)) day.time) day.time_in.0.le, shown_is (int_le day.time (pos 604799)) day.time_in.1.le) refl

summer_again : (dst : Dst) → summer_from (dst_view dst) ≡ Some (summer_of dst)
summer_again dst = rw (offset_again dst.offset, day_time_again dst.rule.start, day_time_again dst.rule.end) refl

with_summer_again : (standard : Offset) (dst : Option Dst) → with_summer standard (option_map dst_view dst) ≡ Some (record { standard = standard; summer = option_map summer_of dst })
with_summer_again standard None = refl
with_summer_again standard (Some dst) = rw (summer_again dst) refl

-- a rule that `jiff` reads spells its zone
pub zone_again : (rule : List ℕ) (zone : TimeZone) → read_whole rule ≡ Some (tz_view zone) → read_zone rule ≡ Some (zone_of zone)
zone_again rule zone read = rw (read, offset_again zone.std_offset) (with_summer_again zone.std_offset zone.dst)

-- what parsing a rule gives
pub parsed_is : (rule : List ℕ) (parsed : Result TimeZone Error) → (IsOk parsed ↔ IsSome (read_whole rule)) → IfOk parsed (λ zone. read_whole rule ≡ Some (tz_view zone)) → option_map zone_of (result_ok parsed) ≡ read_zone rule
parsed_is rule (Ok zone) succeeds value = sym (zone_again rule zone value)
parsed_is rule (Err error) succeeds value = not_read (read_whole rule) refl
  where
    false_some : ◌≡◌ {A = Bool} false true → ⊥
    false_some h = cc

    not_read : (read : Option TzText) → read_whole rule ≡ read → ◌≡◌ {A = Option Zone} None (read_zone rule)
    not_read None e = sym (rw e refl)
    not_read (Some text) e = absurd (false_some (succeeds.1 (rw e refl)))

-- noon in the zone of a rule is the instant that `jiff` gives it
pub noon_is_instant : (zone : TimeZone) (n : ℕ) (at : DateTime) → IsNoonOf n at → instant_in zone at ≡ noon_in (zone_of zone) n
noon_is_instant zone n at is =
    let nanos = wall_noon_is n at (epoch_day_is n at.date is.date_is) is.time_is in
    let offsets = noon_offsets_are zone.std_offset zone.dst n at is.date_is.0 nanos in
    ap₂ (λ (noon : ℤ) (o : AmbiguousOffset). noon -ℤ nanos_of_seconds (compatible_offset o).seconds) nanos offsets
