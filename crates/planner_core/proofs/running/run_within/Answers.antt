use Rattle.plan_base.proofs.Common.{Err, ap, inl, refl, subst}
use Rattle.plan_base.proofs.MoreWritten.{stays_so}
use Rattle.command_words.specs.{Request}
use Rattle.run_steps.specs.{scene}
use Rattle.planner_core.specs.{says}
use Rattle.planner_core.proofs.{CompleteLemmas.completes, SizeLemmas.asked_size}
use Rattle.planner_core.proofs.running.run_within.Goals as goal

pub returns-in-Err-Refused-clause-outcome : goal.returns-in-Err-Refused-clause-outcome
returns-in-Err-Refused-clause-outcome g c = inl (c.in-Err-Refused.ensures.refused (ap Err c.in-Err-Refused.field-0-is), (refl, stays_so (g.O.Sink.meaning c.args.ports.now.out)))

pub returns-in-Err-Refused-clause-complete : goal.returns-in-Err-Refused-clause-complete
returns-in-Err-Refused-clause-complete g c r files asks tells can quiet = absurd (c.in-Err-Refused.ensures.refused (ap Err c.in-Err-Refused.field-0-is) r asks)

pub returns-in-Err-clause-complete : goal.returns-in-Err-clause-complete
returns-in-Err-clause-complete g c r files asks tells can quiet =
    let old = scene (g.F.Shelf.meaning c.args.ports.now.shelf) (g.O.Sink.meaning c.args.ports.now.out) in
    let new = scene (g.F.Shelf.meaning c.carry_out.new.ports.shelf) (g.O.Sink.meaning c.carry_out.new.ports.out) in
    completes files c.args.caps.now r can old new c.in-Err.outcome tells quiet
    (subst (λ (q : Request). says c.args.caps.now q old new c.in-Err.outcome) (c.in-Ok.ensures.only r asks).0 c.in-Err.ensures)

pub carry_out-requires : goal.carry_out-requires
carry_out-requires g c = asked_size _ _ c.in-Ok.ensures.ok
