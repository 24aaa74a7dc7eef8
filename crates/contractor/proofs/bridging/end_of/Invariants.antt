use Rattle.plan_base.proofs.Common.{length, ◌-◌}
use Rattle.contractor.specs.inside.{IsEndOf}
use Rattle.contractor.proofs.bridging.end_of.Given as goal

abbrev pub invariant-ways : goal.invariant-ways
invariant-ways l = IsEndOf l.ways l.place l.end

abbrev pub decreases-ways : goal.decreases-ways
decreases-ways l = length l.ways - l.end
