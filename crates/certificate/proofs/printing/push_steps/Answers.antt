use Rattle.plan_base.proofs.Common.{arith, common_steps, All-more}
use Rattle.certificate.specs.{FitsStep}
use Rattle.certificate.proofs.printing.push_steps.Goals as goal

pub loop-step-preserved : goal.loop-step-preserved
loop-step-preserved c = record {
  lines = grind (arith, common_steps);
  fit = All-more FitsStep c.args.steps.now c.loop-step.step-index _ c.loop-step-test.true c.loop-step.invariant.fit c.in_ok-push_step.ensures.fits;
}
