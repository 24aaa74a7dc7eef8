use Rattle.plan_base.proofs.Common.{◌≡◌, ℕ, ◌+◌, Bool, ◌&&◌, ltb, subst, sym, ap, ◌∙◌}
use Rattle.service_days.specs.{date_of, runs_on}
use Rattle.plan_base.specs.{contains_day}
use Rattle.service_days.proofs.{OneDayMore.one_day_more, OneDayMore.no_day_more, region_days.Days.days_of.Goals.then-runs, region_days.Days.days_of.Goals.else-runs}
use Rattle.service_days.proofs.region_days.Days.days_of.Goals as goal

pub loop-day-preserved : goal.loop-day-preserved
loop-day-preserved c other =
    let R : ℕ → Bool = λ day. runs_on c.args.rule c.args.added.now c.args.removed.now (date_of c.args.self.now day) in
    let here : c.runs.result ≡ R c.loop-day.day = c.runs.ensures ∙ ap (runs_on c.args.rule c.args.added.now c.args.removed.now) c.date.ensures in
    elim c.if-runs.branch [
      | then-runs w ↦ subst (λ days. contains_day days other ≡ (ltb other (c.loop-day.day + 1) && R other)) (sym w.days-is)
          (one_day_more R c.loop-day.day other (contains_day c.loop-day.days other) _ (c.loop-day.invariant other) (w.with_day-days.ensures other) (sym here ∙ w.if-runs.true))
      | else-runs w ↦ subst (λ days. contains_day days other ≡ (ltb other (c.loop-day.day + 1) && R other)) (sym w.days-is)
          (no_day_more R c.loop-day.day other (contains_day c.loop-day.days other) (c.loop-day.invariant other) (sym here ∙ w.if-runs.false))
    ]
