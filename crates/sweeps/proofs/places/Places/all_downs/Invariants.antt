use Rattle.sweeps.specs.inside.{AreRowsOf, AreDownsAt}
use Rattle.sweeps.proofs.places.Places.all_downs.Given as goal

abbrev pub invariant-loop-i : goal.invariant-loop-i
invariant-loop-i l = AreRowsOf (AreDownsAt l.h l.self.nodes.now) l.i l.rows
