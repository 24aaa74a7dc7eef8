use Rattle.plan_base.proofs.Common.{sym, ◌∙◌}
use Rattle.hierarchy_check.proofs.EntryLemmas.{step_decides}
use Rattle.hierarchy_check.proofs.witnesses.after_step.Goals as goal

pub returns-in-Some : goal.returns-in-Some
returns-in-Some c =
    step_decides c.args.h.now c.known.ensures.entries_ascend c.args.x c.args.u c.args.y c.args.have c.in-Some.entry.now (sym c.above.ensures ∙ c.if-not-above.false) c.in-Some.ensures
    c.rest_of.result c.rest_of.ensures.some c.rest_of.ensures.none

pub returns-in-None : goal.returns-in-None
returns-in-None c = λ left step. c.in-None.ensures step.weight step.entry
