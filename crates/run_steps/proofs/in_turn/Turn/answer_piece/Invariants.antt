use Rattle.plan_base.proofs.Common.{◌≡◌, ℕ, ◌+◌, ◌*◌, ◌^◌, ◌≤◌, ◌++◌, length}
use Rattle.run_steps.specs.inside.{AreAnswered, IsBegun}
use Rattle.run_steps.proofs.in_turn.Turn.answer_piece.Given as goal

-- the lines that ended in what was taken off the piece are answered
abbrev pub invariant-lines : goal.invariant-lines
invariant-lines g l = record {
  later : (g.O.Sink.meaning l.fn.out).faults ≤ (g.O.Sink.meaning l.out).faults;
  count : ℕ;
  sum : l.kept.sum ≡ l.fn.kept.sum + count;
  answered : AreAnswered (g.B.LineBlocks.is_block l.self.blocks.now) (g.B.LineBlocks.counts l.self.blocks.now) (g.O.Sink.meaning l.fn.out) (g.O.Sink.meaning l.out)
      (l.fn.rest.items ++ l.piece) (l.rest.items ++ l.left) count;
  begun : IsBegun l.rest.items;
  shorter : length l.left ≤ length l.piece;
  room : l.kept.sum + 2 ^ 64 * length l.left ≤ l.fn.kept.sum + 2 ^ 64 * length l.piece;
}

abbrev pub decreases-lines : goal.decreases-lines
decreases-lines g l = length l.left
