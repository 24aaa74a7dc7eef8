use Rattle.product_search.specs.inside.{AreMovesBelow}
use Rattle.product_search.proofs.moves.moves_of.Given as goal

abbrev pub invariant-loop-place : goal.invariant-loop-place
invariant-loop-place g l = AreMovesBelow (g.L.Labels.automaton l.labels) l.state l.place l.moves
