use Rattle.plan_base.proofs.Common.{◌≡◌, subst, append_assoc, AllByRecursion}
use Rattle.certificate.specs.{Claim, FitsLine, cert_lines, cert_text, label_lines, result_lines}
use Rattle.certificate.proofs.{FitLemmas.of_both, TextLemmas.whole_text}
use Rattle.certificate.proofs.printing.print.Goals as goal

pub returns : goal.returns
returns c =
    let labels = subst (λ labels. AllByRecursion FitsLine (label_lines labels)) c.deref.ensures.value c.in_ok-push_rest.ensures.fit in
    let behind = of_both FitsLine (result_lines c.certificate.inside.result) (label_lines c.certificate.inside.labels.items) c.in_ok-push_result.ensures.fit labels in
    record {
      fits = c.requires;
      lines = subst (λ (claim : Claim). AllByRecursion FitsLine (cert_lines claim)) c.certificate.view_is (tt, (tt, (tt, behind)));
      spelled = subst (λ claim. c.push_rest.new.out.items ≡ cert_text claim) c.certificate.view_is
          (rw (c.in_ok-push_rest.ensures.lines, c.in_ok-push_result.ensures.lines, c.in_ok-push_front.ensures, c.as_slice.ensures, c.deref.ensures.value, c.new-out.ensures.items, whole_text) (simp append_assoc));
    }
