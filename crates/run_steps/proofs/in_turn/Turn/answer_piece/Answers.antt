use Rattle.plan_base.proofs.Common.{◌≡◌, ℕ, ◌+◌, ◌∙◌, List, ◌∷◌, ◌++◌, append_assoc, ap, sym, subst, arith, All-nil, err_from_is_err_and}
use Rattle.std.proofs.lemmas.Result.{IfErr-weaker}
use Rattle.run_steps.specs.inside.{AreAnswered, IsBegun}
use Rattle.run_steps.proofs.{LineLemmas.line_join, TurnLemmas.answered_twice, TurnLemmas.keep_fails, TurnLemmas.line_answered, TurnLemmas.line_fails, TurnLemmas.none_answered, TurnLemmas.piece_fails}
use Rattle.run_steps.proofs.in_turn.Turn.answer_piece.Goals as goal

-- a line that began in what was kept
ends_so : (rest left end after : List ℕ) → left ≡ end ++ 10 ∷ after → rest ++ left ≡ (rest ++ end) ++ 10 ∷ after
ends_so rest left end after e = ap (λ (t : List ℕ). rest ++ t) e ∙ sym (append_assoc rest end (10 ∷ after))

pub lines-init : goal.lines-init
lines-init g c = record {
  later = omega arith;
  count = 0;
  sum = omega arith;
  answered = none_answered (g.B.LineBlocks.is_block c.args.self.now.blocks.now) (g.B.LineBlocks.counts c.args.self.now.blocks.now) (g.O.Sink.meaning c.args.out.now) (c.args.rest.now.items ++ c.args.piece.now);
  begun = c.requires.begun;
  shorter = omega arith;
  room = omega arith;
}

pub lines-preserved : goal.lines-preserved
lines-preserved g c =
    let IsBlock = g.B.LineBlocks.is_block c.args.self.now.blocks.now in
    let Counts = g.B.LineBlocks.counts c.args.self.now.blocks.now in
    let before = g.O.Sink.meaning c.args.out.now in
    let mid = g.O.Sink.meaning c.lines.out in
    let after = g.O.Sink.meaning c.answer_end.new.out in
    let rest = c.lines.rest.items in
    let cut = c.in-Some.ensures.exact in
    let done = c.in_ok-answer_end.ensures in
    let text = c.args.rest.now.items ++ c.args.piece.now in
    let line = line_answered IsBlock Counts mid after (rest ++ c.lines.left.now) (rest ++ c.in-Some.end.now) c.in-Some.after.now done.sum.0
    (line_join rest c.in-Some.end.now c.lines.invariant.begun.0 cut.0) done.line (ends_so rest c.lines.left.now c.in-Some.end.now c.in-Some.after.now cut.1) done.ok done.sum.1 in
    let all = answered_twice IsBlock Counts before mid after text (rest ++ c.lines.left.now) c.in-Some.after.now c.lines.invariant.count done.sum.0 c.lines.invariant.answered line in
    record {
      later = (let one = c.lines.invariant.later in let two = done.later in omega arith);
      count = c.lines.invariant.count + done.sum.0;
      sum = (let one = c.lines.invariant.sum in let two = done.sum.2 in omega arith);
      answered = subst (λ (r : List ℕ). AreAnswered IsBlock Counts before after text (r ++ c.in-Some.after.now) (c.lines.invariant.count + done.sum.0)) (sym done.none) all;
      begun = subst IsBegun (sym done.none) (All-nil _, omega arith);
      shorter = (let one = c.lines.invariant.shorter in let two = c.in-Some.ensures.shorter in omega arith);
      room = (let one = c.lines.invariant.room in let two = c.in-Some.ensures.shorter in let three = done.few in omega arith);
    }

pub returns-in_err-answer_end-clause-err : goal.returns-in_err-answer_end-clause-err
returns-in_err-answer_end-clause-err g c =
    let p = err_from_is_err_and c.from_residual.result c.from_residual.ensures.1 in
    let IsBlock = g.B.LineBlocks.is_block c.args.self.now.blocks.now in
    let Counts = g.B.LineBlocks.counts c.args.self.now.blocks.now in
    let before = g.O.Sink.meaning c.args.out.now in
    let mid = g.O.Sink.meaning c.lines.out in
    let after = g.O.Sink.meaning c.answer_end.new.out in
    let rest = c.lines.rest.items in
    let cut = c.in-Some.ensures.exact in
    rw (p.1, p.2)
    (piece_fails c.args.self.now.file IsBlock Counts before mid after (c.args.rest.now.items ++ c.args.piece.now) (rest ++ c.lines.left.now) c.lines.invariant.count
    c.lines.invariant.answered c.lines.invariant.later _
    (line_fails c.args.self.now.file IsBlock Counts mid after (rest ++ c.lines.left.now) (rest ++ c.in-Some.end.now) c.in-Some.after.now
    (line_join rest c.in-Some.end.now c.lines.invariant.begun.0 cut.0) (ends_so rest c.lines.left.now c.in-Some.end.now c.in-Some.after.now cut.1) _ c.in_err-answer_end.ensures.err))

pub returns-clause-err : goal.returns-clause-err
returns-clause-err g c =
    let IsBlock = g.B.LineBlocks.is_block c.args.self.now.blocks.now in
    let Counts = g.B.LineBlocks.counts c.args.self.now.blocks.now in
    let before = g.O.Sink.meaning c.args.out.now in
    let mid = g.O.Sink.meaning c.lines.out in
    let rest = c.lines.rest.items in
    let behind = rest ++ c.lines.left.now in
    IfErr-weaker c.keep.result _ _
    (λ outcome why. piece_fails c.args.self.now.file IsBlock Counts before mid mid (c.args.rest.now.items ++ c.args.piece.now) behind c.lines.invariant.count
    c.lines.invariant.answered c.lines.invariant.later outcome
    (keep_fails c.args.self.now.file IsBlock Counts mid behind (line_join rest c.lines.left.now c.lines.invariant.begun.0 c.in_default.ensures.exact) outcome why))
    c.keep.ensures.err
