use Rattle.plan_base.proofs.Common.{◌∙◌, ap, sym, err_from_is_err_and}
use Rattle.run_steps.specs.{as_query}
use Rattle.run_steps.proofs.TurnLemmas.{block_fails}
use Rattle.run_steps.proofs.in_turn.Turn.answer_line.Goals as goal

pub returns-in_err-count-clause-err : goal.returns-in_err-count-clause-err
returns-in_err-count-clause-err g c =
    let p = err_from_is_err_and c.from_residual.result c.from_residual.ensures.1 in
    rw (p.1, p.2)
    (block_fails (g.B.LineBlocks.is_block c.args.self.now.blocks.now) (g.O.Sink.meaning c.args.out.now) (g.O.Sink.meaning c.write_block.new.out) c.args.line.now c.in-Some.query.now
    (ap as_query (sym c.without_return.ensures) ∙ sym c.in-Some.ensures) _ c.in_err-count.ensures.err)
