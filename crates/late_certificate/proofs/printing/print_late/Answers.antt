use Rattle.plan_base.proofs.Common.{◌≡◌, map, subst, append_assoc, AllByRecursion}
use Rattle.certificate.specs.Lines as usual_lines
use Rattle.certificate.specs.{label_lines}
use Rattle.certificate.proofs.FitLemmas.{of_both}
use Rattle.latest_departure.specs.{LateClaim}
use Rattle.late_certificate.specs.declared.lines.Line.TheVariants as line
use Rattle.late_certificate.specs.{FitsLine, late_lines, late_text, result_lines}
use Rattle.late_certificate.proofs.TextLemmas.{usual_fit, whole_text}
use Rattle.late_certificate.proofs.printing.print_late.Goals as goal

pub returns : goal.returns
returns c =
    let labels = subst (λ labels. AllByRecursion usual_lines.FitsLine (label_lines labels)) c.deref.ensures.value c.in_ok-push_rest.ensures.fit in
    let behind = of_both FitsLine (result_lines c.certificate.inside.result) (map line.Usual (label_lines c.certificate.inside.labels.items)) c.in_ok-push_result.ensures.fit
    (usual_fit (label_lines c.certificate.inside.labels.items) labels) in
    record {
      fits = c.requires;
      lines = subst (λ (claim : LateClaim). AllByRecursion FitsLine (late_lines claim)) c.certificate.view_is (tt, (tt, behind));
      spelled = subst (λ claim. c.push_rest.new.out.items ≡ late_text claim) c.certificate.view_is
          (rw (c.in_ok-push_rest.ensures.lines, c.in_ok-push_result.ensures.lines, c.in_ok-push_front.ensures, c.as_slice.ensures, c.deref.ensures.value, c.new-out.ensures.items, whole_text) (simp append_assoc));
    }
