use Rattle.plan_base.proofs.Common.{sym, ap, ◌∙◌}
use Rattle.automaton.specs.inside.{has}
use Rattle.automaton.proofs.{StateLemmas.moves_more, StateLemmas.moves_same, state.make_moves.Goals.then-contains+in_ok-push, state.make_moves.Goals.else-contains}
use Rattle.automaton.proofs.state.make_moves.Goals as goal

pub loop-index-preserved : goal.loop-index-preserved
loop-index-preserved c =
    let drafts = c.args.drafts.now in
    elim c.if-contains.branch [
      | then-contains+in_ok-push w ↦
          ap (λ v. v.items) w.moves-is
          ∙ moves_more drafts (has c.args.next) c.loop-index.index _ c.loop-index.moves.items w.push.new.self.items c.loop-index-test.true
          (sym c.contains.ensures ∙ w.if-contains.true) c.loop-index.invariant w.in_ok-push.ensures.items
      | else-contains w ↦
          ap (λ v. v.items) w.moves-is ∙ c.loop-index.invariant
          ∙ moves_same drafts (has c.args.next) c.loop-index.index (sym c.contains.ensures ∙ w.if-contains.false)
    ]
