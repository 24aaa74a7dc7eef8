use Rattle.plan_base.proofs.Common.{append-nil}
use Rattle.certificate.proofs.walked.Walked.go_on.Goals as goal
use Rattle.certificate.proofs.walked.Walked.go_on.Goals.{in-Some, in_default}

pub returns-clause-states : goal.returns-clause-states
returns-clause-states g c = λ letters after. elim c.match-end.branch [
  | in-Some w ↦ rw (w.self-is, w.in-Some.is) (w.read.ensures letters after)
  | in_default w ↦ rw (w.self-is, w.in_default.is, append-nil letters) after
]
