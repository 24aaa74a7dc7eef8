use Rattle.plan_base.proofs.Common.{◌≡◌, ℕ, List, ap, sym, ◌∙◌, subst, Bor, IfOk, option_map}
use Rattle.mode_expression.specs.{form_of}
use Rattle.hierarchy.specs.declared.hierarchy.Hierarchy.{Hierarchy}
use Rattle.journey.specs.{IsQuery}
use Rattle.certificate.specs.{declared.verdict.CertVerdict.TheVariants.Valid, Claim, HaveTimes, Proves}
use Rattle.certificate.proofs.VerifyLemmas.{phases_fail, claim_is}
use Rattle.certificate.proofs.verifying.verify.Goals as goal

pub returns-in-Ok-clause-verdict : goal.returns-in-Ok-clause-verdict
returns-in-Ok-clause-verdict c =
    let q = c.in-Ok.field-0 in
    let h = option_map (λ (x : Bor Hierarchy). x.now) c.args.hierarchy in
    let line : c.as_slice.result.now ≡ c.args.certificate.now.line = c.as_slice.ensures ∙ ap (λ (x : Claim). x.line) c.certificate.view_is in
    phases_fail c.args.network.now h c.args.certificate.now q
    (subst (λ (l : List ℕ). IsQuery c.args.network.now l q.from q.to q.depart (form_of q.expr)) line c.in-Ok.ensures.query)
    (λ same. let no = c.if-not-names_graph.true in let yes = c.names_graph.ensures.1 (ap (λ (x : Claim). x.phases) c.certificate.view_is ∙ same) in cc)

pub verify_claim-requires-clause-times : goal.verify_claim-requires-clause-times
verify_claim-requires-clause-times c =
    let parts = c.certificate.inside in
    let h = option_map (λ (x : Bor Hierarchy). x.now) c.args.hierarchy in
    let same = claim_is c.args.certificate.now h c.in-Ok.field-0 parts.line parts.phases parts.result parts.labels.items c.certificate.view_is
    (c.in-Ok.ensures.line ∙ c.as_slice.ensures) (c.names_graph.ensures.0 c.if-not-names_graph.false) in
    rw c.deref.ensures.value (subst HaveTimes (sym same) c.requires.times)

pub returns-in-Ok-2-clause-proves : goal.returns-in-Ok-2-clause-proves
returns-in-Ok-2-clause-proves c =
    let parts = c.certificate.inside in
    let h = option_map (λ (x : Bor Hierarchy). x.now) c.args.hierarchy in
    let same = claim_is c.args.certificate.now h c.in-Ok.field-0 parts.line parts.phases parts.result parts.labels.items c.certificate.view_is
    (c.in-Ok.ensures.line ∙ c.as_slice.ensures) (c.names_graph.ensures.0 c.if-not-names_graph.false) in
    subst (λ (x : Claim). IfOk c.verify_claim.result (λ verdict. verdict ≡ Valid → Proves c.args.network.now x)) same (rw c.deref.ensures.value at c.verify_claim.ensures.proves)
