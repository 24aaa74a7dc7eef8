use Rattle.plan_base.proofs.Common.{◌≡◌, ◌++◌, ◌∷◌, take, flat_map}
use Rattle.journey.specs.{letter_text}
use Rattle.journey.proofs.texts.push_letters.Given as goal

abbrev pub invariant-loop-letter : goal.invariant-loop-letter
invariant-loop-letter l = l.out.items ≡ l.fn.out.items ++ flat_map (λ letter. 32 ∷ letter_text letter) (take l.letter-index l.word)
