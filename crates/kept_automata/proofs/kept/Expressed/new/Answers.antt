use Rattle.mode_expression.specs.{form_of}
use Rattle.kept_automata.proofs.TextLemmas.{made_of_text}
use Rattle.kept_automata.proofs.kept.Expressed.new.Goals as goal

pub invariant_of-result : goal.invariant_of-result
invariant_of-result g c = record {
  spelled = ∣ made_of_text c.in_ok-text.text.items (form_of c.args.expr.now) (λ form. g.M.Maker.is_made c.args.maker form c.in_ok-made.made) c.outcome_is_unique.ensures.unique
      (rw c.in_ok-text.ensures.items c.requires.spelled) c.in_ok-made.ensures ∣₁;
}
