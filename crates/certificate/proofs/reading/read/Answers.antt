use Rattle.certificate.proofs.{Making.gives_found, Making.gives_only, ReadLaws.found, ReadLaws.again, ReadLaws.gives_cause}
use Rattle.certificate.specs.{cert_of, IsCertText}
use Rattle.certificate.proofs.reading.read.Goals as goal

pub returns-clause-found : goal.returns-clause-found
unfolding cert_of
returns-clause-found c = gives_found (IsCertText c.args.bytes.now) (cert_of c.args.bytes.now) (found c.args.bytes.now) c.read_lines.result c.read_lines.ensures

pub returns-clause-only : goal.returns-clause-only
unfolding cert_of
returns-clause-only c = λ m h. gives_only (cert_of c.args.bytes.now) c.read_lines.result c.read_lines.ensures m (again c.args.bytes.now m h)

pub returns-clause-cause : goal.returns-clause-cause
unfolding cert_of
returns-clause-cause c = gives_cause c.args.bytes.now c.read_lines.result c.read_lines.ensures
