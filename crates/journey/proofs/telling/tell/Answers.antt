use Rattle.plan_base.proofs.Common.{get_or_default}
use Rattle.journey.proofs.{ToldLemmas.telling_more, ToldLemmas.goes_on, StepLemmas.step_in_range, StepLemmas.step_there}
use Rattle.journey.proofs.telling.tell.Goals as goal

pub loop-step-preserved : goal.loop-step-preserved
loop-step-preserved c =
    let told = c.in_ok-tell_step.ensures in
    let more = telling_more c.args.network.now c.keeps_rules.ensures c.args.start c.args.at c.args.steps.now c.requires.waits c.loop-step.step-index _ _ _ _ _
    c.loop-step.invariant c.loop-step-test.true (get_or_default c.args.steps.now c.loop-step.step-index _ _ c.loop-step-test.true) _ _ _ c.in-Some.ensures in
    rw (told.node, told.at, told.word, told.lines) more

pub unreachable-requires : goal.unreachable-requires
unreachable-requires c =
    goes_on c.args.network.now c.args.steps.now c.loop-step.step-index c.loop-step.told.node c.loop-step.told.at _ c.loop-step.invariant.rest c.loop-step-test.true
    (get_or_default c.args.steps.now c.loop-step.step-index _ _ c.loop-step-test.true) c.in_default.ensures

pub tell_step-requires-clause-node : goal.tell_step-requires-clause-node
tell_step-requires-clause-node c =
    step_in_range c.args.network.now c.keeps_rules.ensures c.loop-step.told.node c.loop-step.told.at _ _ _ _ c.loop-step.invariant.in_range c.in-Some.ensures

pub tell_step-requires-clause-there : goal.tell_step-requires-clause-there
tell_step-requires-clause-there c =
    step_there c.args.network.now c.keeps_rules.ensures c.loop-step.told.node c.loop-step.told.at _ _ _ _ c.in-Some.ensures
