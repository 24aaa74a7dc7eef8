use Rattle.plan_base.proofs.Common.{◌≡◌, range_with_len}
use Rattle.sample_city.proofs.corners.lines.Given as goal

abbrev pub invariant-loop-line : goal.invariant-loop-line
invariant-loop-line l = l.lines.items ≡ range_with_len 0 l.line
