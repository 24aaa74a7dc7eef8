use Rattle.plan_base.proofs.Common.{◌≡◌, sym, ◌∙◌, subst, IfOk}
use Rattle.certificate.specs.declared.verdict.CertVerdict.TheVariants.{Valid}
use Rattle.latest_departure.specs.{LateClaim, ProvesLate}
use Rattle.late_certificate.specs.{HaveTimes, IsLateVerdict}
use Rattle.late_certificate.proofs.VerifyLemmas.{claim_is}
use Rattle.late_certificate.proofs.verifying.verify_late.Goals as goal

pub verify_claim-requires-clause-times : goal.verify_claim-requires-clause-times
verify_claim-requires-clause-times c =
    let parts = c.certificate.inside in
    let same = claim_is c.args.certificate.now c.in-Ok.query parts.line parts.result parts.labels.items c.certificate.view_is (c.in-Ok.ensures.line ∙ c.as_slice.ensures) in
    rw c.deref.ensures.value (subst HaveTimes (sym same) c.requires)

pub returns-in-Ok-clause-verdict : goal.returns-in-Ok-clause-verdict
returns-in-Ok-clause-verdict c =
    let parts = c.certificate.inside in
    let same = claim_is c.args.certificate.now c.in-Ok.query parts.line parts.result parts.labels.items c.certificate.view_is (c.in-Ok.ensures.line ∙ c.as_slice.ensures) in
    subst (λ (x : LateClaim). IfOk c.verify_claim.result (IsLateVerdict c.args.network.now x)) same (rw c.deref.ensures.value at c.verify_claim.ensures.verdict)

pub returns-in-Ok-clause-proves : goal.returns-in-Ok-clause-proves
returns-in-Ok-clause-proves c =
    let parts = c.certificate.inside in
    let same = claim_is c.args.certificate.now c.in-Ok.query parts.line parts.result parts.labels.items c.certificate.view_is (c.in-Ok.ensures.line ∙ c.as_slice.ensures) in
    subst (λ (x : LateClaim). IfOk c.verify_claim.result (λ verdict. verdict ≡ Valid → ProvesLate c.args.network.now x)) same (rw c.deref.ensures.value at c.verify_claim.ensures.proves)
