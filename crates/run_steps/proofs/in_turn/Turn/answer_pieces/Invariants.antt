use Rattle.plan_base.proofs.Common.{◌+◌, ◌-◌, ◌*◌, ◌^◌, ◌≤◌}
use Rattle.run_steps.specs.{scene}
use Rattle.run_steps.proofs.PieceLemmas.{IsGoingOn}
use Rattle.run_steps.proofs.in_turn.Turn.answer_pieces.Given as goal

abbrev pub ghost-next_piece : goal.ghost-next_piece
ghost-next_piece g a = g.first

-- the lines that ended in what was read are answered
abbrev pub invariant-pieces : goal.invariant-pieces
invariant-pieces g l = record {
  going : IsGoingOn (g.B.LineBlocks.is_block l.self.blocks.now) (g.B.LineBlocks.counts l.self.blocks.now) l.self.path.now l.place g.first
      (scene (g.F.Shelf.meaning l.ports.shelf) (g.O.Sink.meaning l.ports.out)) l.rest.items l.kept.sum;
  few : l.kept.sum ≤ 2 ^ 64 * l.place;
  early : l.place ≤ 2 ^ 63 + 65536;
}

abbrev pub decreases-pieces : goal.decreases-pieces
decreases-pieces g l = 2 ^ 63 + 65536 - l.place
