use Rattle.plan_base.proofs.Common.{◌∷◌, [], length-append, arith}
use Rattle.product_search.proofs.MoveLemmas.{still_none}
use Rattle.product_search.proofs.moves.StateMoves.none.Goals as goal

pub loop-letter-preserved : goal.loop-letter-preserved
loop-letter-preserved c =
    let lists = c.loop-letter.targets.items in
    let more = length-append lists ([] ∷ []) in
    rw (c.in_ok-push.ensures.items, c.none.ensures) (record {
      one_each = omega (arith, more, c.loop-letter.invariant.one_each);
      none = still_none lists c.loop-letter.invariant.none;
    })

pub returns : goal.returns
returns c = λ l q. record {
  letters = λ j k lt. absurd (omega arith);
  leaving = λ j k lt. absurd (omega arith);
  one_each = omega (arith, c.loop-letter.invariant.one_each);
  targets = λ letter low. c.loop-letter.invariant.none letter;
}
