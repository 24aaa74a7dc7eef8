use Rattle.plan_base.proofs.Common.{ℕ, ◌+◌, ◌<◌, All}
use Rattle.rounds.specs.inside.{never, row_of}
use Rattle.rounds.proofs.asked.Asked.with_room.Given as goal

abbrev pub invariant-loop-k : goal.invariant-loop-k
invariant-loop-k g l = record { roomy : (j : ℕ) → j < l.k → All (λ t. t < never → t + l.self.rounds.now.longest < never) (row_of l.reached.walks.items j) }
