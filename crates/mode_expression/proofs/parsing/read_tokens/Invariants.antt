use Rattle.plan_base.proofs.Common.{◌≡◌, ◌≤◌, ◌-◌, length, drop}
use Rattle.mode_expression.specs.{inside.read_from, inside.state_of_reader, reading_of, tokens_from}
use Rattle.mode_expression.proofs.parsing.read_tokens.Given as goal

-- what the reader makes of the tokens that are left is what the text gives
abbrev pub invariant-loop-spot : goal.invariant-loop-spot
invariant-loop-spot l =
    (l.from ≤ length l.text)
    × (reading_of l.text ≡ read_from (length l.text) (state_of_reader l.reader) (tokens_from l.from (drop l.from l.text)))

abbrev pub decreases-loop-spot : goal.decreases-loop-spot
decreases-loop-spot l = length l.text - l.from
