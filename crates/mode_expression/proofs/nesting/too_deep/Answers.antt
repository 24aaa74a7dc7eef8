use Rattle.mode_expression.proofs.{NestingLemmas.counted_open, NestingLemmas.counted_close, NestingLemmas.counted_other, NestingLemmas.counted_all, nesting.too_deep.Goals.then-c-eq40+else-opened-closed, nesting.too_deep.Goals.else-c-eq40+then-c-eq41, nesting.too_deep.Goals.else-c-eq40+else-c-eq41}
use Rattle.mode_expression.proofs.nesting.too_deep.Goals as goal

pub loop-at-preserved : goal.loop-at-preserved
loop-at-preserved c =
    let text = c.args.text.now in
    let i = c.loop-at.at in
    let o = c.loop-at.opened in
    let d = c.loop-at.closed in
    let counted = c.loop-at.invariant in
    elim c.if-c-eq40.branch [
      | then-c-eq40+else-opened-closed w ↦
          rw (w.opened-is, w.closed-is) (counted_open text i o d c.loop-at-test.true counted w.if-c-eq40.true w.if-opened-closed.false)
      | else-c-eq40+then-c-eq41 w ↦
          rw (w.opened-is, w.closed-is) (counted_close text i o d c.loop-at-test.true counted w.if-c-eq41.true)
      | else-c-eq40+else-c-eq41 w ↦
          rw (w.opened-is, w.closed-is) (counted_other text i o d c.loop-at-test.true counted w.if-c-eq40.false w.if-c-eq41.false)
    ]

pub returns-clause-none : goal.returns-clause-none
returns-clause-none c = counted_all c.args.text.now c.loop-at.at c.loop-at.opened c.loop-at.closed c.loop-at-test.false c.loop-at.invariant
