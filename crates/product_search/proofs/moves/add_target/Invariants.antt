use Rattle.product_search.specs.inside.{AreTargetsWith}
use Rattle.product_search.proofs.moves.add_target.Given as goal

abbrev pub invariant-loop-letter : goal.invariant-loop-letter
invariant-loop-letter l = AreTargetsWith l.step l.letter l.initial.targets.items l.targets.items
