use Rattle.plan_base.proofs.Common.{◌∙◌}
use Rattle.mode_expression.proofs.FormLemmas.{whole_made}
use Rattle.mode_expression.proofs.level.Level.whole.Goals as goal

pub returns : goal.returns
returns c =
    let old = c.args.self in
    c.make_alternative.ensures
    ∙ whole_made old.choices.items old.parts.items c.push.new.self.items c.make_sequence.result c.make_sequence.ensures c.in_ok-push.ensures.items
