use Rattle.plan_base.proofs.Common.{◌∙◌, sym, le-leb}
use Rattle.timetable_arcs.proofs.DayLemmas.{below_any, quotient_below}
use Rattle.timetable_arcs.proofs.rules.is_below_power.Goals as goal

pub returns-then-exponent-ge128 : goal.returns-then-exponent-ge128
returns-then-exponent-ge128 c =
    le-leb 128 c.args.exponent c.if-exponent-ge128.true ∙ sym (below_any c.args.number c.args.exponent c.ranges.number.fits c.if-exponent-ge128.true)

pub returns-else-exponent-ge128 : goal.returns-else-exponent-ge128
returns-else-exponent-ge128 c = quotient_below c.args.number c.args.exponent
