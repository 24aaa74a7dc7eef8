use Rattle.plan_base.proofs.Common.{arith}
use Rattle.plan_base.proofs.MoreWritten.{written_more, part_left, on_err}
use Rattle.plan_base.proofs.writing.write_all.Goals as goal

pub loop-rest-preserved : goal.loop-rest-preserved
loop-rest-preserved g c = (
  omega (arith, c.loop-rest.invariant.0, c.in_ok-n.ensures.later),
  rw c.split_at.ensures.back (written_more _ _ _ c.args.piece.now c.loop-rest.rest.now c.in_ok-n.n c.in_ok-n.ensures.within c.loop-rest.invariant.1 c.in_ok-n.ensures.ok),
)

pub returns-in_err-n-clause-part : goal.returns-in_err-n-clause-part
returns-in_err-n-clause-part g c = on_err c.from_residual.result (part_left _ _ _ _ c.loop-rest.rest.now c.loop-rest.invariant.1 c.in_err-n.ensures.same)
