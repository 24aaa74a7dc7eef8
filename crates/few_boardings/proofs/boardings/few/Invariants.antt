use Rattle.few_boardings.specs.{AreRowsSoFar, rides_left}
use Rattle.journey.specs.{asked_by}
use Rattle.few_boardings.proofs.boardings.few.Given as goal

abbrev pub invariant-loop-best : goal.invariant-loop-best
invariant-loop-best l = AreRowsSoFar l.network (asked_by l.query) l.rows.items l.best

abbrev pub decreases-loop-best : goal.decreases-loop-best
decreases-loop-best l = rides_left l.best
