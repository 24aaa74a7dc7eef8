use Rattle.plan_base.proofs.Common.{arith}
use Rattle.hierarchy_file.proofs.{CauseLaws.gives_cause, WholeLaws.gives_found, WholeLaws.gives_only}
use Rattle.hierarchy_file.proofs.decoding.decode.Goals as goal

pub returns-clause-found : goal.returns-clause-found
returns-clause-found c = gives_found c.args.bytes.now c.read.result (λ i. omega (arith, c.type_inv.bytes i)) c.read.ensures

pub returns-clause-only : goal.returns-clause-only
returns-clause-only c = λ h spelled. gives_only c.args.bytes.now c.read.result c.read.ensures h spelled.0 spelled.1

pub returns-clause-cause : goal.returns-clause-cause
returns-clause-cause c = gives_cause c.args.bytes.now c.read.result (λ i. omega (arith, c.type_inv.bytes i)) c.read.ensures
