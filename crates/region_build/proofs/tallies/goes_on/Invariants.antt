use Rattle.plan_base.proofs.Common.{◌≡◌, length}
use Rattle.region_build.specs.{rows_go_on}
use Rattle.region_build.proofs.tallies.goes_on.Given as goal

abbrev pub decreases-loop-rest : goal.decreases-loop-rest
decreases-loop-rest l = length l.rest

abbrev pub invariant-loop-rest : goal.invariant-loop-rest
invariant-loop-rest l = rows_go_on l.time l.rest ≡ rows_go_on 0 l.calls
