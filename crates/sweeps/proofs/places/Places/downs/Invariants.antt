use Rattle.plan_base.proofs.Common.{take}
use Rattle.sweeps.specs.inside.{AreDowns}
use Rattle.sweeps.proofs.places.Places.downs.Given as goal

abbrev pub invariant-loop-fall : goal.invariant-loop-fall
invariant-loop-fall l = AreDowns l.self.nodes.now l.i (take l.fall-index l.falls) l.row.items
