use Rattle.plan_base.proofs.Common.{◌++◌, err_from_is_err_and}
use Rattle.run_steps.proofs.TurnLemmas.{whole_fails}
use Rattle.run_steps.proofs.in_turn.Turn.answer_end.Goals as goal

pub returns-in_err-keep-clause-err : goal.returns-in_err-keep-clause-err
returns-in_err-keep-clause-err g c =
    let p = err_from_is_err_and c.from_residual.result c.from_residual.ensures.1 in
    rw (p.1, p.2)
    (whole_fails c.args.self.now.file (g.B.LineBlocks.is_block c.args.self.now.blocks.now) (g.O.Sink.meaning c.args.out.now) (c.args.rest.now.items ++ c.args.end.now) _ c.in_err-keep.ensures.err)
