use Rattle.plan_base.proofs.Common.{arith}
use Rattle.region_file.proofs.Decoded.{either_found}
use Rattle.region_file.proofs.decoding.read_region.Goals as goal

pub build-requires : goal.build-requires
build-requires c = (either_found c.args.bytes.now (λ i. omega (arith, c.type_inv.bytes i)) c.in_ok-parts.parts c.in_ok-parts.ensures).0.parts
