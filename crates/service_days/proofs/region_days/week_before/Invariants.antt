use Rattle.plan_base.proofs.Common.{◌≡◌, pos, ◌+ℤ◌, ◌≤ℤ◌}
use Rattle.service_days.specs.{earlier_date, inside.number_of_date}
use Rattle.service_days.proofs.region_days.week_before.Given as goal

-- so many days before the first date, and not many years
abbrev pub invariant-loop : goal.invariant-loop
invariant-loop l =
    (number_of_date l.date ≡ earlier_date l.counter l.first)
    × (pos 1900 ≤ℤ (l.date.year +ℤ pos l.counter)) × (l.date.year ≤ℤ pos 2199)
