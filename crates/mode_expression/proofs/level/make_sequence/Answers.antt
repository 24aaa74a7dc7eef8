use Rattle.plan_base.proofs.Common.{ap, ◌∙◌, map}
use Rattle.mode_expression.specs.{form_of, sequence}
use Rattle.mode_expression.proofs.FormLemmas.{form_sequence}
use Rattle.mode_expression.proofs.level.make_sequence.Goals as goal

pub returns-in-Err : goal.returns-in-Err
returns-in-Err c =
    let same = c.in-Err.ensures.many in
    form_sequence c.in-Err.parts (rw same c.in-Err.ensures.count) ∙ ap (λ items. sequence (map form_of items)) same
