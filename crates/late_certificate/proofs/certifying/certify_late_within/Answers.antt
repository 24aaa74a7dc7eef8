use Rattle.plan_base.proofs.Common.{◌∙◌, refl, ap, subst}
use Rattle.mode_network.specs.{NetworkLists.NetworkLists, IsNetwork}
use Rattle.service_days.specs.{AreDays, AreRisingDays}
use Rattle.journey.specs.{Asked, asked_by, KeepsRules}
use Rattle.latest_departure.specs.{AreLateLabels}
use Rattle.latest_departure.proofs.{CertifyLemmas.late_is_valid, ValidLemmas.valid_late_proves}
use Rattle.late_certificate.proofs.VerifyLemmas.{late_fits, one_asked}
use Rattle.late_certificate.proofs.certifying.certify_late_within.Goals as goal

pub returns-clause-certificate : goal.returns-clause-certificate
returns-clause-certificate c =
    let n = c.args.backwards.now.network in
    let q = c.args.query in
    let late = c.in-Ended.late in
    let right = rw c.in-Ended.is at c.in_ok-found.ensures.journey in
    let are = rw c.in-Ended.is at c.in_ok-found.ensures.labels in
    let times = rw c.in-Ended.is at c.in_ok-found.ensures.times in
    let same = c.network-network.ensures in
    let days = c.days.ensures ∙ ap (λ (m : NetworkLists). m.days) same in
    let rules : KeepsRules n = record { network = subst IsNetwork same c.known.ensures; days = subst AreDays days c.known-2.ensures.days; order = subst AreRisingDays days c.known-2.ensures.order } in
    let valid = late_is_valid n rules q.line (asked_by q) c.requires.asks late.journey right late.labels.items are in
    record {
      line_is = refl;
      valid = valid;
      labelled = subst (λ (a : Asked). AreLateLabels n a late.labels.items) (one_asked n q.line (asked_by q) valid.setting.asked c.requires.asks valid.setting.asks) are;
      fits = record { line = c.requires.line; result = late_fits n (asked_by q) late.journey right; labels = times };
      proves = valid_late_proves n rules _ valid;
    }
