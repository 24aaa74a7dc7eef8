use Rattle.plan_base.proofs.Common.{◌≡◌, ℕ, List, Option, inr, subst, rules, OnOk}
use Rattle.mode_network.specs.{Route}
use Rattle.journey.specs.{Asks, asked_by, AddsText}
use Rattle.journey_book.specs.{IsAnswered, IsReviewed}
use Rattle.journey_book.proofs.ReportLemmas.{adds_as}
use Rattle.journey_book.proofs.reviewing.push_reviewed.Goals as goal

pub returns-in-Ok : goal.returns-in-Ok
returns-in-Ok c =
    let n = c.args.report.now.network.now in
    let claim = c.args.certificate.now in
    let asked = asked_by c.in-Ok.query in
    let line : c.as_slice.result.now ≡ claim.line = search rules in
    let asks = subst (λ (l : List ℕ). Asks n l asked) line c.in-Ok.ensures.query in
    let result : c.certificate.inside.result ≡ claim.result = search rules in
    let is = subst (λ (kept : Option (ℕ × Route)). OnOk c.push_answer.result (AddsText (IsAnswered n kept asked) c.args.text.now.items c.push_answer.new.text.items)) result c.push_answer.ensures in
    adds_as c.args.text.now.items c.push_answer.new.text.items (IsAnswered n claim.result asked) (IsReviewed n claim) (λ words is. inr (asked, asks, is)) c.push_answer.result is
