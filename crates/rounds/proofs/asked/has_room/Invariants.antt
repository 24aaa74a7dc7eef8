use Rattle.plan_base.proofs.Common.{◌+◌, ◌<◌, AllWithin}
use Rattle.rounds.specs.inside.{never}
use Rattle.rounds.proofs.asked.has_room.Given as goal

abbrev pub invariant-loop-delay : goal.invariant-loop-delay
invariant-loop-delay l = record { roomy : AllWithin (λ t. t < never → t + l.longest < never) l.delays 0 l.delay-index }
