use Rattle.plan_base.proofs.Common.{◌≡◌, ◌∙◌, ap, subst, sym}
use Rattle.plan_base.proofs.MoreWritten.{stays_so as unwritten}
use Rattle.run_steps.specs.{scene_of}
use Rattle.journey_book.specs.{IsReport, IsReported, end_by, rule_of, BookWrites, book_end_of, ended_by, BookOutcome}
use Rattle.journey_book.proofs.RunLemmas.{report_written, telling_fails}
use Rattle.journey_book.proofs.showing.write_report.Goals as goal

pub returns-in-Ok : goal.returns-in-Ok
returns-in-Ok g c shelf =
    let rule = rule_of c.args.report.now in
    let before = g.K.Keeper.meaning c.args.keeper.now in
    let old = scene_of shelf (g.O.Sink.meaning c.args.out.now) before in
    let new = scene_of shelf (g.O.Sink.meaning c.write_text.new.out) (g.K.Keeper.meaning c.report_of.new.keeper) in
    let end : book_end_of c.ended.result ≡ ended_by c.write_text.result (end_by c.args.fail c.in-Ok.reported.well) = c.ended.ensures ∙ ap (ended_by c.write_text.result) c.end_by.ensures in
    subst (λ (o : BookOutcome). BookWrites (IsReported rule c.args.fail before) old new o) (sym end)
    (report_written old new c.in-Ok.ensures.same rule before c.deref.result.now c.args.fail c.in-Ok.reported.well
    (subst (λ text. IsReport rule before text c.in-Ok.reported.well) (sym c.deref.ensures.value) c.in-Ok.ensures.ok) c.write_text.result c.write_text.ensures.ok c.write_text.ensures.err)

pub returns-in-Err : goal.returns-in-Err
returns-in-Err g c shelf =
    let before = g.K.Keeper.meaning c.args.keeper.now in
    let after = g.K.Keeper.meaning c.report_of.new.keeper in
    let out = g.O.Sink.meaning c.args.out.now in
    rw (c.outcome_of_keeper.ensures)
    (telling_fails (scene_of shelf out before) (scene_of shelf out after) (unwritten out, c.in-Err.ensures.same) (IsReported (rule_of c.args.report.now) c.args.fail before) c.in-Err.fault c.in-Err.ensures.cause)
