use Rattle.plan_base.proofs.Common.{Option, ap, inr, subst, sym}
use Rattle.mode_network.specs.{Route}
use Rattle.journey.specs.{asked_by}
use Rattle.planning.specs.{IsPlan}
use Rattle.journey_book.specs.{IsAnswered, arrival_words}
use Rattle.journey_book.proofs.ReportLemmas.{adds}
use Rattle.journey_book.proofs.reviewing.push_answer.Goals as goal

pub returns-in-Some : goal.returns-in-Some
returns-in-Some c =
    let n = c.args.report.now.network.now in
    let asked = asked_by c.args.query.now in
    let kept = c.args.kept.now in
    let plan = subst (λ (j : Option Route). IsPlan n asked j) c.in-Some.is c.in_ok-journey.ensures.journey in
    adds c.args.text.now.items c.push_arrival.new.text.items (IsAnswered n kept asked) (arrival_words n asked.depart c.arrival_of-arrival.result kept)
    (inr (c.in-Some.journey, plan.0, ap (λ t. arrival_words n asked.depart t kept) (sym (c.arrival_of-arrival.ensures asked plan.0)))) c.push_arrival.result c.push_arrival.ensures
