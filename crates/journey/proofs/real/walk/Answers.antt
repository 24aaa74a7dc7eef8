use Rattle.plan_base.proofs.Common.{ℕ, ◌+◌, ap, sym, subst, get_or_default}
use Rattle.journey.specs.{IsFirstBad}
use Rattle.journey.proofs.WalkLemmas.{walking_more, walking_ends}
use Rattle.journey.proofs.real.walk.Goals as goal

pub returns-in_default : goal.returns-in_default
returns-in_default c =
    subst (λ (p : ℕ). IsFirstBad c.args.network.now c.args.start c.args.at c.args.steps.now p) (sym c.loop-step.invariant.0)
    (walking_ends c.args.network.now c.args.start c.args.at c.args.steps.now c.loop-step.step-index _ _ _ c.loop-step.invariant.1 c.loop-step-test.true
    (get_or_default c.args.steps.now c.loop-step.step-index _ _ c.loop-step-test.true) c.in_default.ensures)

pub loop-step-preserved : goal.loop-step-preserved
loop-step-preserved c = (
  ap (λ (p : ℕ). p + 1) c.loop-step.invariant.0,
  walking_more c.args.network.now c.args.start c.args.at c.args.steps.now c.keeps_rules.ensures c.requires.waits c.loop-step.step-index _ _ _ c.loop-step.invariant.1
      c.loop-step-test.true (get_or_default c.args.steps.now c.loop-step.step-index _ _ c.loop-step-test.true) _ _ _ c.in-Some.ensures,
)
