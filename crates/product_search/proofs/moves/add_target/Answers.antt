use Rattle.plan_base.proofs.Common.{◌<◌, ◌++◌, ◌∷◌, [], List, ℕ, length, ◌∙◌, ap, arith, slice_set, get_or_default}
use Rattle.product_search.proofs.{MoveLemmas.with_none, MoveLemmas.with_more, MoveLemmas.with_same, MoveLemmas.with_all, moves.add_target.Goals.then-has_letter+in_ok-push, moves.add_target.Goals.else-has_letter}
use Rattle.product_search.proofs.moves.add_target.Goals as goal

pub loop-letter-init : goal.loop-letter-init
loop-letter-init c = with_none c.args.step c.args.targets.now.items

pub loop-letter-preserved : goal.loop-letter-preserved
loop-letter-preserved c =
    let old = c.args.targets.now.items in
    let mid = c.loop-letter.targets.items in
    let k = c.loop-letter.letter in
    elim c.if-has_letter.branch [
      | then-has_letter+in_ok-push w ↦ (
          let inside : k < length mid = omega (arith, c.loop-letter.invariant.one_each, c.requires.one_each, c.letters_end-letter-end.ensures.few) in
          let list = w.index_mut.ensures.value ∙ get_or_default mid k w.index_mut.result.now [] inside in
          with_more c.args.step old k mid c.if-has_letter.targets.items c.loop-letter.invariant inside (c.has_letter.ensures.0 w.if-has_letter.true)
          (rw w.targets-is (ap (slice_set mid k) (w.in_ok-push.ensures ∙ ap (λ (xs : List ℕ). xs ++ c.args.step.to ∷ []) list))))
      | else-has_letter w ↦ rw w.targets-is (with_same c.args.step old k mid c.loop-letter.invariant (λ by. let has = c.has_letter.ensures.1 by in let not = w.if-has_letter.false in cc))
    ]

pub returns : goal.returns
returns c = with_all c.args.step c.args.targets.now.items c.loop-letter.letter c.loop-letter.targets.items c.loop-letter.invariant
    (omega (arith, c.letters_end-letter-end.ensures.few)) (λ k set. let below = c.letters_end-letter-end.ensures.end k set in omega arith)
