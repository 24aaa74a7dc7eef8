use Rattle.plan_base.proofs.Common.{take}
use Rattle.sweeps.specs.inside.{AreUps}
use Rattle.sweeps.proofs.places.Places.ups.Given as goal

abbrev pub invariant-loop-leg : goal.invariant-loop-leg
invariant-loop-leg l = AreUps l.self.nodes.now l.i (take l.leg-index l.legs) l.row.items
