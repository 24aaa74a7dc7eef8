use Rattle.plan_base.proofs.Common.{◌≡◌, ◌∙◌, ℕ, nat_eq, true, Option, Some, None, ap, sym, eqb-true, not-true}
use Rattle.std.specs.Option.{option_eq}
use Rattle.rounds.proofs.LayerLemmas.{core_of}
use Rattle.rounds.proofs.core_layer.Cores.is_core_in.Goals as goal

some_letter : (o : Option ℕ) (letter : ℕ) → option_eq nat_eq o (Some letter) ≡ true → o ≡ Some letter
some_letter None letter e = cc
some_letter (Some c) letter e = ap Some (eqb-true c letter e)

pub returns-then-eq-clause-yes : goal.returns-then-eq-clause-yes
returns-then-eq-clause-yes c = λ yes. (
  core_of c.args.self.now.hierarchy.now.order c.args.v (sym c.contracted.ensures ∙ not-true _ yes),
  sym c.letter.ensures ∙ some_letter c.letter.result c.args.letter (sym c.eq.ensures ∙ c.if-eq.true),
)
