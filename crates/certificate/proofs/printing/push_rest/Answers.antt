use Rattle.plan_base.proofs.Common.{[], ◌∷◌, map, append_assoc}
use Rattle.certificate.specs.declared.lines.Line.TheVariants as line
use Rattle.certificate.specs.{FitsLabel, FitsLine}
use Rattle.certificate.proofs.{FitLemmas.made_alike_fit, FitLemmas.of_both, TextLemmas.rest_text}
use Rattle.certificate.proofs.printing.push_rest.Goals as goal

pub returns-clause-fit : goal.returns-clause-fit
returns-clause-fit c =
    (c.in_ok-push_count.ensures.count, of_both FitsLine (map line.Label c.args.labels.now) (line.End ∷ []) (made_alike_fit line.Label FitsLabel FitsLine (λ label fits. fits) c.args.labels.now c.in_ok-push_labels.ensures.fit) (tt, tt))

pub returns-clause-lines : goal.returns-clause-lines
returns-clause-lines c = rw (c.in_ok-extend_from_slice.ensures.items, c.in_ok-push_labels.ensures.lines, c.in_ok-push_count.ensures.line, rest_text c.args.labels.now) (simp append_assoc)
