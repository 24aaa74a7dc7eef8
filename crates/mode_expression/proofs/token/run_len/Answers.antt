use Rattle.plan_base.proofs.Common.{[], sym, ◌∙◌, arith}
use Rattle.mode_expression.proofs.{TokenLemmas.run_begins, TokenLemmas.run_more, TokenLemmas.run_ends, token.run_len.Goals.then-loop-last-test+else-same_run, token.run_len.Goals.else-loop-last-test}
use Rattle.mode_expression.proofs.token.run_len.Goals as goal

pub loop-last-init : goal.loop-last-init
loop-last-init c = (c.requires.some, c.requires.begins, run_begins c.args.text.now c.requires.some c.requires.begins)

pub loop-last-preserved : goal.loop-last-preserved
loop-last-preserved c =
    let inv = c.loop-last.invariant in
    let more = run_more c.args.text.now c.loop-last.last c.loop-last-test.true inv.1 (sym (c.same_run.ensures []) ∙ c.if-same_run.true) inv.2 in
    (c.loop-last-test.true, more.0, more.1)

pub returns-clause-run : goal.returns-clause-run
returns-clause-run c =
    let inv = c.loop-last.invariant in
    elim c.loop-last-test.branch [
      | then-loop-last-test+else-same_run w ↦
          run_ends c.args.text.now c.loop-last.last inv.0 inv.1 (λ _. sym (w.same_run.ensures []) ∙ w.if-same_run.false) inv.2
      | else-loop-last-test w ↦ run_ends c.args.text.now c.loop-last.last inv.0 inv.1 (λ lt. absurd (omega (arith, w.loop-last-test.false))) inv.2
    ]
