use Rattle.certificate.proofs.Making.{gives_found, gives_only}
use Rattle.late_certificate.specs.{late_of, IsLateText}
use Rattle.late_certificate.proofs.ReadLaws.{found, again, gives_cause}
use Rattle.late_certificate.proofs.reading.read_late.Goals as goal

pub returns-clause-found : goal.returns-clause-found
unfolding late_of
returns-clause-found c = gives_found (IsLateText c.args.bytes.now) (late_of c.args.bytes.now) (found c.args.bytes.now) c.read_lines.result c.read_lines.ensures

pub returns-clause-only : goal.returns-clause-only
unfolding late_of
returns-clause-only c = λ m h. gives_only (late_of c.args.bytes.now) c.read_lines.result c.read_lines.ensures m (again c.args.bytes.now m h)

pub returns-clause-cause : goal.returns-clause-cause
unfolding late_of
returns-clause-cause c = gives_cause c.args.bytes.now c.read_lines.result c.read_lines.ensures
