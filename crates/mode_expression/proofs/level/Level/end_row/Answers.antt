use Rattle.plan_base.proofs.Common.{◌≡◌, ◌∙◌, ap, map}
use Rattle.mode_expression.specs.{form_of, sequence}
use Rattle.mode_expression.proofs.FormLemmas.{choice_made}
use Rattle.mode_expression.proofs.level.Level.end_row.Goals as goal

pub returns : goal.returns
returns c =
    let old = c.args.self.now in
    let made : form_of c.make_sequence.result ≡ sequence (map form_of old.parts.items) =
    c.make_sequence.ensures ∙ ap (λ v. sequence (map form_of v.items)) c.replace-parts.ensures.value in
    choice_made old.choices.items old.parts.items c.push.new.self.items c.replace-parts.new.dest.items c.make_sequence.result made
    c.in_ok-push.ensures.items (ap (λ v. v.items) c.replace-parts.ensures.after ∙ c.new.ensures.items)
