use Rattle.plan_base.proofs.Common.{◌≡◌, ◌-◌, range_with_len}
use Rattle.journey.proofs.copy_list.numbers.Given as goal

abbrev pub invariant-loop-v : goal.invariant-loop-v
invariant-loop-v l = l.numbers.items ≡ range_with_len l.first (l.v - l.first)
