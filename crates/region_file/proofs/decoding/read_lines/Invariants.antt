use Rattle.plan_base.proofs.Common.{◌≡◌, ◌≤◌, ◌+◌, length}
use Rattle.plain_texts.specs.{lines_from, pieces}
use Rattle.region_file.specs.{is_end, line_at, put_all}
use Rattle.region_file.proofs.decoding.read_lines.Given as goal

abbrev pub invariant-loop-line : goal.invariant-loop-line
invariant-loop-line l =
    (put_all l.parts (lines_from line_at is_end l.progress l.at (pieces l.rest)) ≡ put_all l.fn.parts (lines_from line_at is_end l.fn.progress 3 (pieces l.fn.rest)))
    × (l.at + length l.rest ≤ length l.fn.rest + 3)

abbrev pub decreases-loop-line : goal.decreases-loop-line
decreases-loop-line l = length l.rest
