use Rattle.plan_base.proofs.Common.{◌<◌, ◌-◌, ◌^◌}
use Rattle.product_search.proofs.chains.power_within.Given as goal

abbrev pub invariant-double : goal.invariant-double
invariant-double l = (0 < l.power) × (l.power < 2 ^ 29)

abbrev pub decreases-double : goal.decreases-double
decreases-double l = l.most - l.power
