use Rattle.plan_base.proofs.Common.{take}
use Rattle.sweeps.specs.inside.Steps.{AreSpread}
use Rattle.sweeps.proofs.sweeping.spread.Given as goal

abbrev pub invariant-loop-leg : goal.invariant-loop-leg
invariant-loop-leg l = record { spread : AreSpread l.t (take l.leg-index l.legs) l.initial.times l.times }
