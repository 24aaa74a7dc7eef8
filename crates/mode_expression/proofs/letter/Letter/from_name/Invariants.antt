use Rattle.plan_base.proofs.Common.{◌≡◌, ◌<◌, ℕ, [], get_or, false, bytes_eq}
use Rattle.plan_base.specs.{letter_names}
use Rattle.mode_expression.proofs.letter.Letter.from_name.Given as goal

-- no letter below this number has the name
abbrev pub invariant-loop-number : goal.invariant-loop-number
invariant-loop-number l = (k : ℕ) → k < l.number → bytes_eq (get_or letter_names k []) l.name ≡ false
