use Rattle.plan_base.proofs.Common.{arith, common_steps, All-more}
use Rattle.certificate.specs.{FitsLabel}
use Rattle.certificate.proofs.printing.push_labels.Goals as goal

pub loop-label-preserved : goal.loop-label-preserved
loop-label-preserved c = record {
  lines = grind (arith, common_steps);
  fit = All-more FitsLabel c.args.labels.now c.loop-label.label-index _ c.loop-label-test.true c.loop-label.invariant.fit c.in_ok-push_label.ensures.fits;
}
