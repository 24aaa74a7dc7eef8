use Rattle.plan_base.proofs.Common.{List, map, string_bytes, subst, IfOk-weaker}
use Rattle.journey_book.specs.{HasReported, rule_of}
use Rattle.journey_book.proofs.ReportLemmas.{has_before}
use Rattle.journey_book.proofs.reports.report_of.Goals as goal

pub returns-clause-ok : goal.returns-clause-ok
returns-clause-ok g c =
    let rule = rule_of c.args.report.now in
    let old = g.K.Keeper.meaning c.args.keeper.now in
    let mid = g.K.Keeper.meaning c.names.new.self in
    let names = map string_bytes c.in_ok-names.names.items in
    IfOk-weaker c.report_all.result _ _
    (λ it reported. (
      names,
      c.in_ok-names.ensures.ok,
      has_before rule old mid c.in_ok-names.ensures.same names it.text.items it.well
          (subst (λ (ns : List _). HasReported rule mid (map string_bytes ns) it.text.items it.well) c.deref.ensures.value reported),
    )) c.report_all.ensures.ok
