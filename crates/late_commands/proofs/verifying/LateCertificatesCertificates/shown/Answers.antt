use Rattle.plan_base.proofs.Common.{subst}
use Rattle.late_certificate.specs.{IsLateVerdict}
use Rattle.late_commands.proofs.OutputLemmas.{valid_printable, shown_block}
use Rattle.late_commands.proofs.verifying.LateCertificatesCertificates.shown.Goals as goal

pub claimed_block-requires : goal.claimed_block-requires
claimed_block-requires c =
    let n = c.args.self.now.network.now in
    let claim = c.in-Ok.certificate in
    valid_printable n c.known.ensures c.args.bytes.now claim c.in-Ok.ensures.found (subst (IsLateVerdict n claim) c.in-Valid.is c.in_ok-verify_late.ensures.verdict)

pub returns-clause-ok : goal.returns-clause-ok
returns-clause-ok c =
    let n = c.args.self.now.network.now in
    let claim = c.in-Ok.certificate in
    shown_block n c.args.bytes.now claim c.in_ok-block.block.items c.in-Ok.ensures.found
    (subst (IsLateVerdict n claim) c.in-Valid.is c.in_ok-verify_late.ensures.verdict) (c.in_ok-verify_late.ensures.proves c.in-Valid.is) c.in_ok-block.ensures
