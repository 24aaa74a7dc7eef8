use Rattle.plan_base.proofs.Common.{sym, ap, ◌∙◌, arith}
use Rattle.jiff_core.proofs.SignedLemmas.{signed_arith}
use Rattle.service_days.specs.{date_before}
use Rattle.service_days.proofs.PlainDays.{number_again, earlier_date-suc, earlier_date-zero, first_year}
use Rattle.service_days.proofs.region_days.week_before.Goals as goal

pub loop-init : goal.loop-init
loop-init c =
    let year = first_year c.args.first c.requires in (
      number_again c.args.first c.civil_date-date.result c.civil_date-date.ensures ∙ sym (earlier_date-zero c.args.first),
      omega (arith, signed_arith, c.civil_date-date.ensures.0, year),
      omega (arith, signed_arith, c.civil_date-date.ensures.0, year),
    )

pub loop-preserved : goal.loop-preserved
loop-preserved c = (
  c.last_date-date.ensures.number ∙ ap date_before c.loop.invariant.0 ∙ sym (earlier_date-suc c.loop.counter c.args.first),
  omega (arith, signed_arith, c.loop.invariant.1, c.last_date-date.ensures.near),
  omega (arith, signed_arith, c.loop.invariant.2, c.last_date-date.ensures.not_on),
)

pub returns-clause-low : goal.returns-clause-low
returns-clause-low c = omega (arith, signed_arith, c.loop.invariant.1, c.loop.auto.counter-end)
