use Rattle.plan_base.proofs.Common.{◌≡◌, ◌*◌, map, range_with_len}
use Rattle.service_days.proofs.region_days.even_bases.Given as goal

abbrev pub invariant-loop-day : goal.invariant-loop-day
invariant-loop-day l = l.bases.items ≡ map (λ day. 86400000 * day) (range_with_len 0 l.day)
