use Rattle.plan_base.proofs.Common.{length, ◌-◌, ℕ, ◌≡◌, ◌+◌, ◌<◌, ◌≢◌, take, drop, get_or}
use Rattle.mode_expression.specs.{lexemes}
use Rattle.mode_expression.proofs.TokenLemmas.{prefixed}
use Rattle.mode_expression.proofs.token.run_len.Given as goal

-- the bytes before `last` belong to the first token
abbrev pub invariant-loop-last : goal.invariant-loop-last
invariant-loop-last l =
    (l.last < length l.text) × (get_or l.text l.last 0 ≢ 32)
    × ((at : ℕ) → lexemes at l.text ≡ prefixed at (take l.last l.text) (lexemes (at + l.last) (drop l.last l.text)))

abbrev pub decreases-loop-last : goal.decreases-loop-last
decreases-loop-last l = length l.text - l.last
