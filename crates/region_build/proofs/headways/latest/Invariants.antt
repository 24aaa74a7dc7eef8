use Rattle.plan_base.proofs.Common.{◌≡◌, length}
use Rattle.region_build.specs.inside.{latest_of}
use Rattle.region_build.proofs.headways.latest.Given as goal

abbrev pub decreases-loop-rest : goal.decreases-loop-rest
decreases-loop-rest l = length l.rest

abbrev pub invariant-loop-rest : goal.invariant-loop-rest
invariant-loop-rest l = latest_of l.latest l.rest ≡ latest_of 0 l.calls
