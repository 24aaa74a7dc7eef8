use Rattle.plan_base.proofs.Common.{◌≡◌, ◌++◌, take, All, flat_map}
use Rattle.plain_texts.specs.{with_feed}
use Rattle.certificate.specs.declared.lines.Line.TheVariants as line
use Rattle.certificate.specs.{FitsStep, spelled}
use Rattle.certificate.proofs.printing.push_steps.Given as goal

abbrev pub invariant-loop-step : goal.invariant-loop-step
invariant-loop-step l = record {
  lines : l.out.items ≡ l.fn.out.items ++ flat_map (λ step. with_feed (spelled (line.Step step))) (take l.step-index l.steps);
  fit : All FitsStep (take l.step-index l.steps);
}
