use Rattle.plan_base.proofs.Common.{take}
use Rattle.sweeps.specs.inside.Steps.{IsGathered}
use Rattle.sweeps.proofs.sweeping.gathered.Given as goal

abbrev pub invariant-loop-leg : goal.invariant-loop-leg
invariant-loop-leg l = record { gathered : IsGathered l.times l.t (take l.leg-index l.legs) l.least }
