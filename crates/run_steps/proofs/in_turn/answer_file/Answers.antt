use Rattle.plan_base.proofs.Common.{inl, inr, refl, err_from_is_err_and}
use Rattle.plan_base.proofs.MoreWritten.{stays_so}
use Rattle.run_steps.specs.{scene}
use Rattle.run_steps.proofs.in_turn.answer_file.Goals as goal

pub returns-in_err-write_in_turn : goal.returns-in_err-write_in_turn
returns-in_err-write_in_turn g c =
    let p = err_from_is_err_and c.from_residual.result c.from_residual.ensures.1 in
    rw (p.1, p.2) (inl c.in_err-write_in_turn.ensures.err)

pub returns : goal.returns
returns g c =
    let done = c.in_ok-write_in_turn.ensures.ok in
    let out = g.O.Sink.meaning c.write_in_turn.new.ports.out in
    inr (done.0, scene (g.F.Shelf.meaning c.write_in_turn.new.ports.shelf) out, done.1, (refl, stays_so out))
