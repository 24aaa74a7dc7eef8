use Rattle.plan_base.proofs.Common.{length, ◌-◌, ℕ, ◌≡◌, ◌+◌, ◌≤◌, drop}
use Rattle.mode_expression.specs.{lexemes}
use Rattle.mode_expression.proofs.token.spaces.Given as goal

-- the bytes before `count` are spaces
abbrev pub invariant-loop-count : goal.invariant-loop-count
invariant-loop-count l = (l.count ≤ length l.text) × ((at : ℕ) → lexemes at l.text ≡ lexemes (at + l.count) (drop l.count l.text))

abbrev pub decreases-loop-count : goal.decreases-loop-count
decreases-loop-count l = length l.text - l.count
