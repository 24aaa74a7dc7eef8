use Rattle.plan_base.proofs.Common.{List, ℕ, ◌≤◌, length, subst, IfOk-weaker, IfSome}
use Rattle.late_certificate.specs.{IsLateCertificateOf}
use Rattle.late_commands.proofs.CertifyLemmas.{certificate_within}
use Rattle.late_commands.proofs.certifying.certificate_text.Goals as goal

pub returns-in-Ended : goal.returns-in-Ended
returns-in-Ended c =
    let n = c.args.backwards.now.network in
    let claim = c.in-Ended.certificate in
    let of : IsLateCertificateOf n c.args.query.line claim = rw c.in-Ended.is at c.in_ok-certificate.ensures.certificate in
    let few : IfSome c.args.limit (λ most. length claim.labels ≤ most) = rw c.in-Ended.is at c.in_ok-certificate.ensures.few in
    let here = subst (λ (line : List ℕ). IsLateCertificateOf n line claim) c.requires.line of in
    IfOk-weaker c.print_late.result _ _ (λ text is. certificate_within n c.args.line.now text.items c.args.limit claim is here few) c.print_late.ensures
