use Rattle.plan_base.proofs.Common.{◌++◌, ◌∷◌, [], sym, ap, ap₂, ◌∙◌, arith}
use Rattle.jiff_core.proofs.SignedLemmas.{signed_arith}
use Rattle.service_days.specs.{date_after, earlier_date, date_on}
use Rattle.service_days.proofs.PlainDays.{later_date-suc, later_date-zero, one_more}
use Rattle.service_days.proofs.region_days.dates_around.Goals as goal

pub loop-init : goal.loop-init
loop-init c =
    (c.in_ok-dates.ensures.items, c.week_before-date.ensures.number ∙ sym (later_date-zero (earlier_date 7 c.args.first)), c.week_before-date.ensures.low, c.week_before-date.ensures.high)

pub loop-preserved : goal.loop-preserved
loop-preserved c = (
  c.in_ok-push.ensures.items ∙ ap₂ (λ dates date. dates ++ date ∷ []) c.loop.invariant.0 (c.date_number.ensures ∙ c.loop.invariant.1) ∙ sym (one_more (date_on c.args.first) c.loop.counter),
  c.next_date-date.ensures.number ∙ ap date_after c.loop.invariant.1 ∙ sym (later_date-suc c.loop.counter (earlier_date 7 c.args.first)),
  omega (arith, signed_arith, c.loop.invariant.2, c.next_date-date.ensures.not_back),
  omega (arith, signed_arith, c.loop.invariant.3, c.next_date-date.ensures.near),
)
