use Rattle.sweeps.specs.inside.{AreRowsOf, AreUpsAt}
use Rattle.sweeps.proofs.places.Places.all_ups.Given as goal

abbrev pub invariant-loop-i : goal.invariant-loop-i
invariant-loop-i l = AreRowsOf (AreUpsAt l.h l.self.nodes.now) l.i l.rows
