use Rattle.plan_base.proofs.Common.{subst}
use Rattle.mode_expression.specs.{form_of, IsExpression}
use Rattle.kept_automata.proofs.TextLemmas.{text_spells, known_of_text}
use Rattle.kept_automata.proofs.kept.Kept.take.Goals as goal

pub new-requires-clause-spelled : goal.new-requires-clause-spelled
new-requires-clause-spelled g c =
    rw (c.expression_text-text.ensures, c.as_slice.ensures) (text_spells c.args.query.now.line (form_of c.args.query.now.expr) c.requires.spelled)

pub returns-in-Some : goal.returns-in-Some
returns-in-Some g c =
    let form = form_of c.args.query.now.expr in
    let it = c.in-Some.expressed in
    let spells : IsExpression it.text.items form = rw (c.in-Some.ensures.0, c.expression_text-text.ensures, c.as_slice.ensures) (text_spells c.args.query.now.line form c.requires.spelled) in
    subst (λ maker. g.M.Maker.is_made maker form it.made) c.in-Some.ensures.1
    (g.met.M.Maker.known it.maker form it.made (known_of_text it.text.items form (λ f. g.M.Maker.is_made it.maker f it.made) spells it.spelled))
