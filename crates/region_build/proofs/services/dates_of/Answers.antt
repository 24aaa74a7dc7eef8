use Rattle.plan_base.proofs.Common.{◌++◌, ◌∷◌, [], ◌∙◌, ap, sym, arith, if◌then◌else◌, bytes_eq}
use Rattle.region_build.proofs.{ServiceLaws.dates_more, ServiceLaws.dates_same, services.dates_of.Goals.then-is_change+in_ok-note_date, services.dates_of.Goals.else-is_change}
use Rattle.region_build.proofs.services.dates_of.Goals as goal

pub loop-row-preserved : goal.loop-row-preserved
loop-row-preserved c = λ id.
    elim c.if-is_change.branch [
      | then-is_change+in_ok-note_date w ↦
          rw w.dates-is (w.in_ok-note_date.ensures id
          ∙ ap (λ dates. dates ++ (if bytes_eq id c.row-item.result.id then c.row-item.result.date ∷ [] else [])) (c.loop-row.invariant id)
          ∙ sym (dates_more c.args.added id c.args.rows.now c.loop-row.row-index c.row-item.result (omega arith) c.row-item.is (sym c.is_change.ensures ∙ w.if-is_change.true)))
      | else-is_change w ↦
          rw w.dates-is (c.loop-row.invariant id
          ∙ sym (dates_same c.args.added id c.args.rows.now c.loop-row.row-index c.row-item.result (omega arith) c.row-item.is (sym c.is_change.ensures ∙ w.if-is_change.false)))
    ]
