use Rattle.plan_base.proofs.Common.{◌≡◌, ◌++◌, take, All, flat_map}
use Rattle.plain_texts.specs.{with_feed}
use Rattle.certificate.specs.declared.lines.Line.TheVariants as line
use Rattle.certificate.specs.{FitsLabel, spelled}
use Rattle.certificate.proofs.printing.push_labels.Given as goal

abbrev pub invariant-loop-label : goal.invariant-loop-label
invariant-loop-label l = record {
  lines : l.out.items ≡ l.fn.out.items ++ flat_map (λ label. with_feed (spelled (line.Label label))) (take l.label-index l.labels);
  fit : All FitsLabel (take l.label-index l.labels);
}
