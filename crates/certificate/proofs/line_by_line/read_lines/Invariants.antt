use Rattle.plan_base.proofs.Common.{◌≡◌, ◌≤◌, ◌+◌, length}
use Rattle.plain_texts.specs.{lines_from, pieces}
use Rattle.certificate.specs.{made_by, line_at, reading}
use Rattle.certificate.proofs.line_by_line.read_lines.Given as goal

abbrev pub invariant-loop-line : goal.invariant-loop-line
invariant-loop-line g l =
    let kind = g.K.Lined.meaning in
    (made_by kind.put l.certificate (lines_from (line_at kind) kind.is_last l.place l.at (pieces l.rest)) ≡ reading kind l.fn.text)
    × (l.at + length l.rest ≤ length l.fn.text + 1)

abbrev pub decreases-loop-line : goal.decreases-loop-line
decreases-loop-line g l = length l.rest
