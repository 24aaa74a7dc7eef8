use Rattle.plan_base.proofs.Common.{◌≡◌, length, arith, get_or_default}
use Rattle.journey.proofs.WalkLemmas.{spelling_more, spelled_all}
use Rattle.journey.proofs.real.word_of.Goals as goal

pub loop-step-preserved : goal.loop-step-preserved
loop-step-preserved c = λ t taken.
    rw c.in_ok-append.ensures (spelling_more c.args.network.now c.args.start t c.args.steps.now c.loop-step.step-index c.loop-step.node c.loop-step.word.items _
    (c.loop-step.invariant t taken) c.loop-step-test.true (get_or_default c.args.steps.now c.loop-step.step-index _ _ c.loop-step-test.true) _ _ c.way_of-next.ensures)

pub returns : goal.returns
returns c = λ t taken.
    let whole : c.loop-step.step-index ≡ length c.args.steps.now = omega arith in
    spelled_all c.args.network.now c.args.start t c.args.steps.now c.loop-step.step-index c.loop-step.node c.loop-step.word.items whole (c.loop-step.invariant t taken)
