use Rattle.plan_base.proofs.Common.{Bor, ◌≤◌, length, refl, sym, subst, IfOk-weaker, IfSome, option_map}
use Rattle.hierarchy.specs.declared.hierarchy.Hierarchy.{Hierarchy}
use Rattle.certificate.specs.{claim_on}
use Rattle.journey.specs.{Asked, asked_by}
use Rattle.planning.specs.{AreTheLabels, IsCertifiable, IsPlan, route_of}
use Rattle.planning.proofs.PlanLemmas.{plan_proves}
use Rattle.answer_commands.proofs.{CertifyLemmas.certificate_within, LentLemmas.lent_same}
use Rattle.answer_commands.proofs.certifying.certificate_text.Goals as goal

pub returns : goal.returns
returns c =
    let n = c.args.network.now in
    let h = option_map (λ (x : Bor Hierarchy). x.now) c.args.hierarchy in
    let q = c.args.query in
    let best = c.in-Ended.found.best in
    let labels = c.in-Ended.found.labels.items in
    let journey : IsPlan n (asked_by q) (route_of best) = rw c.in-Ended.is at c.in_ok-found.ensures.journey in
    let are : AreTheLabels n h (asked_by q) labels = rw c.in-Ended.is at c.in_ok-found.ensures.labels in
    let certifiable : IsCertifiable n h q best labels = rw c.in-Ended.is at c.in_ok-found.ensures.certifiable in
    let few : IfSome c.args.limit (λ most. length labels ≤ most) = rw c.in-Ended.is at c.in_ok-found.ensures.few in
    IfOk-weaker c.print.result _ _
    (λ text is. certificate_within n h q.line text.items c.args.limit (asked_by q) c.requires.read.asks labels are few (record {
      claim = claim_on q h best labels;
      text = is;
      line_is = refl;
      valid = certifiable.valid;
      labelled = subst (λ (a : Asked). AreTheLabels n h a labels) (sym certifiable.asked) are;
      proves = plan_proves n c.known.ensures h q c.requires.read.asks best labels journey certifiable;
    }))
    (rw (c.is_some.ensures, ← lent_same c.args.hierarchy) at c.print.ensures)
