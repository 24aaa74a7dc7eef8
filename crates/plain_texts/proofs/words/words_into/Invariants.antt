use Rattle.std.proofs.Common.{map}
use Rattle.plain_texts.proofs.Pieces.{WordsSoFar}
use Rattle.plain_texts.proofs.words.words_into.Given as goal

abbrev pub invariant-loop-at : goal.invariant-loop-at
invariant-loop-at l = WordsSoFar l.line (map (λ w. w.now) l.words.items) l.start l.at
