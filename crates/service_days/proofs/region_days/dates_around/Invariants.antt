use Rattle.plan_base.proofs.Common.{◌≡◌, map, pos, ◌+ℤ◌, ◌≤ℤ◌, range_with_len}
use Rattle.service_days.specs.{date_on, inside.number_of_date}
use Rattle.service_days.proofs.region_days.dates_around.Given as goal

-- the dates so far, and the next one, a few years on at most
abbrev pub invariant-loop : goal.invariant-loop
invariant-loop l =
    (l.dates.items ≡ map (date_on l.first) (range_with_len 0 l.counter))
    × (number_of_date l.date ≡ date_on l.first l.counter)
    × (pos 1893 ≤ℤ l.date.year) × (l.date.year ≤ℤ (pos 2199 +ℤ pos l.counter))
