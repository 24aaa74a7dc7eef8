use Rattle.plan_base.proofs.Common.{◌∙◌, subst, sym, arith, get_or_default}
use Rattle.service_days.specs.{DaysMeaning.DaysMeaning, AreDays, AreRisingDays}
use Rattle.timetable_arcs.specs.{AreBases}
use Rattle.mode_network.proofs.bases.bases.Goals as goal

bases_of : (days : DaysMeaning) → AreDays days → AreRisingDays days → AreBases days.bases
bases_of days are order = record {
  rise = λ i j d lt h. rw (get_or_default days.bases i d 0 (omega arith), get_or_default days.bases j d 0 h) (order.bases_rise i j lt h);
  small = λ k d h. rw (get_or_default days.bases k d 0 h) (order.bases_small k (omega (arith, are.bases_long)));
}

pub returns-clause-rise : goal.returns-clause-rise
returns-clause-rise c = subst AreBases (sym (c.in_ok-bases.ensures.items ∙ c.bases.ensures)) (bases_of c.args.days.now c.known.ensures.days c.known.ensures.order)
