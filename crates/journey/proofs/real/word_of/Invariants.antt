use Rattle.plan_base.proofs.Common.{ℕ}
use Rattle.journey.specs.{AreTaken}
use Rattle.journey.proofs.WalkLemmas.{IsSpelled}
use Rattle.journey.proofs.real.word_of.Given as goal

abbrev pub invariant-loop-step : goal.invariant-loop-step
invariant-loop-step l = (t : ℕ) → AreTaken l.network l.start t l.steps → IsSpelled l.network l.start t l.steps l.step-index l.node l.word.items
