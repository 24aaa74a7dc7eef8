use Rattle.plan_base.proofs.Common.{◌≡◌, ◌++◌, map, length}
use Rattle.run_steps.specs.{query_lines}
use Rattle.matrix_commands.proofs.tabulating.destination_lines.Given as goal

abbrev pub invariant-lines : goal.invariant-lines
invariant-lines l = map (λ line. line.now) l.lines.items ++ query_lines l.rest ≡ query_lines l.fn.bytes

abbrev pub decreases-lines : goal.decreases-lines
decreases-lines l = length l.rest
