use Rattle.plan_base.proofs.Common.{ℕ, ◌+◌, ◌∙◌, ap, sym, arith, sum_by}
use Rattle.timetable_arcs.specs.inside.{runs_from, weight_on}
use Rattle.timetable_arcs.proofs.{DayRunLemmas.no_days, DayRunLemmas.day_in_order, PatternLemmas.none_put}
use Rattle.timetable_arcs.proofs.patterns.sort_into_patterns.Goals as goal

pub loop-day-init : goal.loop-day-init
loop-day-init c = rw c.new-patterns.ensures.items (record {
  are = λ k d lt. absurd (omega arith);
  each_once = λ weight. sym (ap (sum_by weight) (no_days 0 c.args.trips.now));
  noted = rw c.in_ok-puts.ensures (none_put c.args.trips.now _);
})

pub loop-day-preserved : goal.loop-day-preserved
loop-day-preserved c = record {
  are = c.in_ok-put_day.ensures.are;
  each_once = λ weight.
      let one = c.in_ok-put_day.ensures.day weight in
      let before = c.loop-day.invariant.each_once weight in
      let sorted = day_in_order weight c.loop-day.day c.args.trips.now c.in_ok-order.order.items c.in_ok-order.ensures in
      let order = c.deref-in-loop-day.ensures.value in
      one ∙ (ap (λ (n : ℕ). n + sum_by (weight_on weight c.args.trips.now c.loop-day.day) c.deref-in-loop-day.result.now) before
      ∙ (ap (λ xs. sum_by weight (runs_from c.loop-day.day 0 c.args.trips.now) + sum_by (weight_on weight c.args.trips.now c.loop-day.day) xs) order ∙ sym sorted));
  noted = c.in_ok-put_day.ensures.noted;
}
