use Rattle.plan_base.proofs.Common.{arith, nat_tests}
use Rattle.certificate.proofs.StateLemmas.{low_letter}
use Rattle.certificate.proofs.state_sets.has_letter.Goals as goal

pub returns-else-letter : goal.returns-else-letter
returns-else-letter c = (
  λ low none. grind (arith, nat_tests),
  λ is. absurd (omega (arith, low_letter c.args.step.letters c.args.letter c.requires is)),
)
