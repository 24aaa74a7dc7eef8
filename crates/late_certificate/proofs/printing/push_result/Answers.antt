use Rattle.plan_base.proofs.Common.{◌≡◌, ◌<◌, ◌^◌, ◌++◌, ◌∙◌, ap, map, subst, sym, append_assoc, Some, All, AllByRecursion}
use Rattle.plain_texts.specs.{lines_text}
use Rattle.journey.specs.{HasTime}
use Rattle.mode_network.specs.{Route}
use Rattle.certificate.specs.declared.lines.Line.TheVariants as usual
use Rattle.certificate.specs.{FitsStep}
use Rattle.certificate.specs.Lines as usual_lines
use Rattle.certificate.proofs.FitLemmas.{made_alike_fit}
use Rattle.late_certificate.specs.{FitsLine, spelled, FitsLateResult, result_lines}
use Rattle.late_certificate.proofs.TextLemmas.{steps_text, usual_fit}
use Rattle.late_certificate.proofs.printing.push_result.Goals as goal

pub push_steps-requires : goal.push_steps-requires
push_steps-requires c =
    let fits = subst FitsLateResult c.in-Some.is c.requires in
    let are = c.deref.ensures.value ∙ ap (λ (j : Route). j.steps) c.journey.view_is in
    subst (λ steps. All HasTime steps) (sym are) fits.waits

pub returns-in_ok-push_steps-in-Some-clause-fit : goal.returns-in_ok-push_steps-in-Some-clause-fit
returns-in_ok-push_steps-in-Some-clause-fit c =
    let fits = subst FitsLateResult c.in-Some.is c.requires in
    let steps = subst (λ steps. All FitsStep steps) (c.deref.ensures.value ∙ ap (λ (j : Route). j.steps) c.journey.view_is) c.in_ok-push_steps-in-Some.ensures.fit in
    let node = subst (λ n. n < 2 ^ 32) (ap (λ (j : Route). j.start) c.journey.view_is) c.in_ok-push_start-in-Some.ensures.node in
    subst (λ x. AllByRecursion FitsLine (result_lines x)) (sym c.in-Some.is) (
      fits.at,
      (
        (node, fits.at),
        usual_fit (map usual.Step c.in-Some.journey.steps)
            (made_alike_fit usual.Step FitsStep usual_lines.FitsLine (λ step fits. fits) c.in-Some.journey.steps steps),
      ),
    )

pub returns-in_ok-push_steps-in-Some-clause-lines : goal.returns-in_ok-push_steps-in-Some-clause-lines
returns-in_ok-push_steps-in-Some-clause-lines c =
    let route : Route = record { start = c.journey.inside.start; at = c.journey.inside.at; steps = c.journey.inside.steps.items } in
    let is : c.args.answer.now ≡ Some route = c.in-Some.is ∙ ap (λ (j : Route). Some j) (sym c.journey.view_is) in
    subst (λ x. c.push_steps.new.out.items ≡ c.args.out.now.items ++ lines_text (map spelled (result_lines x))) (sym is)
    (rw (c.in_ok-push_steps-in-Some.ensures.lines, c.in_ok-push_start-in-Some.ensures.line, c.in_ok-push_departure-in-Some.ensures, c.deref.ensures.value, steps_text route) (simp append_assoc))
