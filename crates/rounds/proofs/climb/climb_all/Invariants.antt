use Rattle.plan_base.proofs.Common.{ℕ, ◌<◌}
use Rattle.rounds.specs.inside.{nodes_of_rungs, AreClimbDelays, IsPassed}
use Rattle.rounds.proofs.climb.climb_all.Given as goal

-- the first so many places are passed
abbrev pub invariant-loop-place : goal.invariant-loop-place
invariant-loop-place l = record {
  are : AreClimbDelays l.h l.start (nodes_of_rungs l.rungs) l.delays.items;
  passed : (i : ℕ) → i < l.place → IsPassed l.h (nodes_of_rungs l.rungs) l.delays.items i;
}
