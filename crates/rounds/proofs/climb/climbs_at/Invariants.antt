use Rattle.rounds.specs.inside.{nodes_of_rungs}
use Rattle.rounds.proofs.ClimbLemmas.{AreClimbsBelow}
use Rattle.rounds.proofs.climb.climbs_at.Given as goal

-- the climbs to the first so many places are listed
abbrev pub invariant-loop-place : goal.invariant-loop-place
invariant-loop-place l = record { are : AreClimbsBelow (nodes_of_rungs l.rungs) l.delays l.place l.climbs.items }
