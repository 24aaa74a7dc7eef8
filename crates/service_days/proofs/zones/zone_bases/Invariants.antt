use Rattle.plan_base.proofs.Common.{◌≡◌, map, true, range_with_len}
use Rattle.service_days.proofs.ZoneDays.{IsAtNoon}
use Rattle.service_days.specs.{have_day_lengths, zone_base, zone_of}
use Rattle.service_days.proofs.zones.zone_bases.Given as goal

-- the bases of the days so far, which have 22 to 26 hours, and the noon of the next one
abbrev pub invariant-loop-day : goal.invariant-loop-day
invariant-loop-day l =
    IsAtNoon (zone_of l.zone) l.dates l.day l.start l.here
    × (have_day_lengths (zone_of l.zone) l.dates l.day ≡ true)
    × (l.bases.items ≡ map (zone_base (zone_of l.zone) l.dates) (range_with_len 0 l.day))
