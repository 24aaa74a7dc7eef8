use Rattle.plan_base.proofs.Common.{ap, ◌∙◌, map}
use Rattle.mode_expression.specs.{form_of, alternative}
use Rattle.mode_expression.proofs.FormLemmas.{form_alternative}
use Rattle.mode_expression.proofs.level.make_alternative.Goals as goal

pub returns-in-Err : goal.returns-in-Err
returns-in-Err c =
    let same = c.in-Err.ensures.many in
    form_alternative c.in-Err.parts (rw same c.in-Err.ensures.count) ∙ ap (λ items. alternative (map form_of items)) same
