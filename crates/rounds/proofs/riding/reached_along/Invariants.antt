use Rattle.plan_base.proofs.Common.{◌≡◌, map, take}
use Rattle.sweeps.specs.{time_at}
use Rattle.rounds.specs.inside.{time_after}
use Rattle.rounds.proofs.riding.reached_along.Given as goal

abbrev pub invariant-loop-crossing : goal.invariant-loop-crossing
invariant-loop-crossing l = l.reached.items ≡ map (λ j. time_after l.dep (time_at l.delays j)) (take l.crossing-index l.line)
