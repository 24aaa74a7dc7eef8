use Rattle.product_search.specs.inside.{HasLettersBelow}
use Rattle.product_search.proofs.moves.letters_after.Given as goal

abbrev pub invariant-loop-j : goal.invariant-loop-j
invariant-loop-j g l = HasLettersBelow (g.L.Labels.automaton l.labels) l.state l.j l.letters
