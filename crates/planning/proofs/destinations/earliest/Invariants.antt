use Rattle.plan_base.proofs.Common.{◌≡◌, take}
use Rattle.planning.specs.{earliest}
use Rattle.planning.proofs.destinations.earliest.Given as goal

abbrev pub invariant-loop-time : goal.invariant-loop-time
invariant-loop-time l = l.first ≡ earliest (take l.time-index l.times)
