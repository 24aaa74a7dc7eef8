use Rattle.product_search.proofs.LetterLemmas.{letters_more}
use Rattle.product_search.proofs.moves.letters_after.Goals as goal

pub loop-j-preserved : goal.loop-j-preserved
loop-j-preserved g c =
    rw c.move_at-letters.ensures (letters_more (g.L.Labels.automaton c.args.labels.now) c.args.state c.loop-j.j c.loop-j.letters c.loop-j.invariant)
