use Rattle.plan_base.proofs.Common.{◌∷◌, [], length-append, sym, subst, arith}
use Rattle.product_search.specs.inside.{AreMoves}
use Rattle.product_search.proofs.MoveLemmas.{each_pushed}
use Rattle.product_search.proofs.moves.move_table.Goals as goal

pub loop-state-preserved : goal.loop-state-preserved
loop-state-preserved g c =
    let l = g.L.Labels.automaton c.args.labels.now in
    let table = c.loop-state.table.items in
    let moves = c.in_ok-moves_of.field-0 in
    let one = c.loop-state.invariant.one_each in
    let more = length-append table (moves ∷ []) in
    let last = subst (λ q. AreMoves l q moves) (sym one) c.in_ok-moves_of.ensures in
    rw c.in_ok-push.ensures.items (record {
      one_each = omega (arith, one, more);
      are = λ q d lt. each_pushed (AreMoves l) table moves d (λ k below. c.loop-state.invariant.are k d below) last q (omega (arith, more, lt));
    })

pub returns : goal.returns
returns g c = record {
  one_each = omega (arith, c.loop-state.invariant.one_each, c.states-state-end.ensures);
  are = λ q d lt. c.loop-state.invariant.are q d (omega (arith, c.loop-state.invariant.one_each, c.states-state-end.ensures));
}
