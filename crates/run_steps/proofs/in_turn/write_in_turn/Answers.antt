use Rattle.plan_base.proofs.Common.{◌≡◌, ℕ, ◌<◌, List, [], ◌∷◌, length, rules, arith, subst, nil_from_length, err_from_is_err_and}
use Rattle.plan_base.specs.{SinkMeaning}
use Rattle.run_steps.specs.{Outcome, scene, queries_among, BlockRule, WroteBlocks, inside.IsBlocksOutcome, inside.IsSumWith}
use Rattle.run_steps.proofs.{PieceLemmas.last_answered, PieceLemmas.last_fails, PieceLemmas.none_last, in_turn.write_in_turn.Goals.then-not-is_empty+in_ok-answer_line, in_turn.write_in_turn.Goals.else-not-is_empty}
use Rattle.run_steps.proofs.in_turn.write_in_turn.Goals as goal

fails_so : (IsBlock : BlockRule) (mid out : SinkMeaning) (line rest : List ℕ) → line ≡ rest → (outcome : Outcome)
    → IsBlocksOutcome mid out IsBlock (queries_among (line ∷ [])) outcome → IsBlocksOutcome mid out IsBlock (queries_among (rest ∷ [])) outcome
fails_so IsBlock mid out line rest e outcome = subst (λ (l : List ℕ). IsBlocksOutcome mid out IsBlock (queries_among (l ∷ [])) outcome) e

pub returns-in_err-answer_line-clause-err : goal.returns-in_err-answer_line-clause-err
returns-in_err-answer_line-clause-err g c =
    let p = err_from_is_err_and c.from_residual-in_err-answer_line.result c.from_residual-in_err-answer_line.ensures.1 in
    let IsBlock = g.B.LineBlocks.is_block c.args.blocks.now in
    let mid = g.O.Sink.meaning c.answer_pieces.new.ports.out in
    let out = g.O.Sink.meaning c.answer_line.new.out in
    let some : 0 < length c.in_ok-rest.rest.items = search (rules, arith) in
    rw (p.1, p.2)
    (last_fails c.args.file IsBlock (g.B.LineBlocks.counts c.args.blocks.now) c.args.path.now (scene (g.F.Shelf.meaning c.args.ports.now.shelf) (g.O.Sink.meaning c.args.ports.now.out))
    (g.F.Shelf.meaning c.answer_pieces.new.ports.shelf) mid c.in_ok-rest.rest.items c.answer_pieces.new.kept.sum c.in_ok-rest.ensures.ok some out _
    (fails_so IsBlock mid out c.deref.result.now c.in_ok-rest.rest.items c.deref.ensures.value _ c.in_err-answer_line.ensures.err))

pub returns-clause-ok : goal.returns-clause-ok
returns-clause-ok g c =
    let IsBlock = g.B.LineBlocks.is_block c.args.blocks.now in
    let Counts = g.B.LineBlocks.counts c.args.blocks.now in
    let first = scene (g.F.Shelf.meaning c.args.ports.now.shelf) (g.O.Sink.meaning c.args.ports.now.out) in
    let shelf = g.F.Shelf.meaning c.answer_pieces.new.ports.shelf in
    let mid = g.O.Sink.meaning c.answer_pieces.new.ports.out in
    let rest = c.in_ok-rest.rest.items in
    elim c.if-not-is_empty.branch [
      | then-not-is_empty+in_ok-answer_line w ↦
          let out = g.O.Sink.meaning w.answer_line.new.out in
          let some : 0 < length rest = search (rules, arith) in
          rw (w.ports-is, w.kept-is)
          (last_answered c.args.file IsBlock Counts c.args.path.now first shelf mid rest c.answer_pieces.new.kept.sum c.in_ok-rest.ensures.ok some out w.answer_line.new.kept.sum w.in_ok-answer_line.ensures.later
          (subst (λ (l : List ℕ). WroteBlocks mid out IsBlock (queries_among (l ∷ []))) w.deref.ensures.value w.in_ok-answer_line.ensures.ok)
          (subst (λ (l : List ℕ). IsSumWith Counts (queries_among (l ∷ [])) c.answer_pieces.new.kept.sum w.answer_line.new.kept.sum) w.deref.ensures.value w.in_ok-answer_line.ensures.sum))
      | else-not-is_empty w ↦
          let none : rest ≡ [] = nil_from_length rest (search (rules, arith)) in
          rw (w.ports-is, w.kept-is) (none_last c.args.file IsBlock Counts c.args.path.now first shelf mid rest c.answer_pieces.new.kept.sum c.in_ok-rest.ensures.ok none)
    ]
