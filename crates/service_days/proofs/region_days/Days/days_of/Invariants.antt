use Rattle.plan_base.proofs.Common.{◌≡◌, ℕ, ◌&&◌, nat_lt}
use Rattle.plan_base.specs.{contains_day}
use Rattle.service_days.specs.{date_of, runs_on}
use Rattle.service_days.proofs.region_days.Days.days_of.Given as goal

-- the days so far on which the service runs
abbrev pub invariant-loop-day : goal.invariant-loop-day
invariant-loop-day l = (other : ℕ) → contains_day l.days other ≡ (nat_lt other l.day && runs_on l.rule l.added l.removed (date_of l.self other))
