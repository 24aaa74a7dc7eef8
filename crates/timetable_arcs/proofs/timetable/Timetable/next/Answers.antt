use Rattle.plan_base.proofs.Common.{◌∙◌, sym}
use Rattle.timetable_arcs.proofs.TableLemmas.{next_in_words}
use Rattle.timetable_arcs.proofs.timetable.Timetable.next.Goals as goal

pub returns-clause-first : goal.returns-clause-first
returns-clause-first c = next_in_words c.args.self.now c.known.ensures c.args.p c.args.call c.args.t _ c.requires.call (sym c.in_ok-next_placed.ensures.is)

pub returns-in_err-next_placed-clause-first : goal.returns-in_err-next_placed-clause-first
returns-in_err-next_placed-clause-first c =
    next_in_words c.args.self.now c.known.ensures c.args.p c.args.call c.args.t c.from_residual.result c.requires.call
    (sym c.in_err-next_placed.ensures.is ∙ sym c.from_residual.ensures)
