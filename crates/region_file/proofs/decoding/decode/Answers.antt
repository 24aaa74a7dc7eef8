use Rattle.plan_base.proofs.Common.{arith}
use Rattle.region_file.proofs.Decoded.{gives_found, gives_only, gives_cause, gives_none}
use Rattle.region_file.proofs.decoding.decode.Goals as goal

pub returns-clause-found : goal.returns-clause-found
returns-clause-found c = gives_found c.args.caps.now c.args.bytes.now (λ i. omega (arith, c.type_inv.bytes i)) c.read_region.result c.read_region.ensures

pub returns-clause-only : goal.returns-clause-only
returns-clause-only c = gives_only c.args.caps.now c.args.bytes.now c.read_region.result c.read_region.ensures

pub returns-clause-cause : goal.returns-clause-cause
returns-clause-cause c = gives_cause c.args.caps.now c.args.bytes.now (λ i. omega (arith, c.type_inv.bytes i)) c.read_region.result c.read_region.ensures

pub returns-clause-none : goal.returns-clause-none
returns-clause-none c = gives_none c.args.caps.now c.args.bytes.now (λ i. omega (arith, c.type_inv.bytes i)) c.read_region.result c.read_region.ensures
