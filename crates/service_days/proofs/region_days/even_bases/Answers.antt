use Rattle.plan_base.proofs.Common.{◌*◌, ◌++◌, ◌∷◌, [], sym, ap, ◌∙◌}
use Rattle.service_days.proofs.PlainDays.{one_more}
use Rattle.service_days.proofs.region_days.even_bases.Goals as goal

pub loop-day-preserved : goal.loop-day-preserved
loop-day-preserved c =
    c.in_ok-push.ensures.items ∙ ap (λ bases. bases ++ (86400000 * c.loop-day.day) ∷ []) c.loop-day.invariant
    ∙ sym (one_more (λ day. 86400000 * day) c.loop-day.day)
